-- The tag numbers of a way or a node, and their text, after `lookups.dat`.
use Rattle.std.specs.Prelude.{◌≡◌, ℕ, ◌+◌, ◌-◌, ◌≤◌, Bool, false, not, ◌||◌, List, [], ◌∷◌, ◌++◌, length, map, slice_index_or, set, cond, ◌==◌, Some, None, unwrap_or, if◌then◌else◌}
use Rattle.std.specs.List.{join_with_byte}
use Rattle.std.specs.Str.{bytes_eq}
use lib.Chars.{codes}
use Rattle.lookup_table.specs.Tag.{TagRow, number_in}

-- the number of a tag that is set to a value: that of the listed value, or 1
abbrev pub value_number_of : TagRow → List ℕ → ℕ
value_number_of row value = unwrap_or (number_in row.numbers value) 1

-- the number of a tag among a way's or a node's tags: the first pair of its name counts, and it is 0 where
-- none has the name
abbrev pub tag_number_of : TagRow → List (List ℕ × List ℕ) → ℕ
tag_number_of row [] = 0
tag_number_of row (t ∷ ts) = if bytes_eq t.0 row.name then value_number_of row t.1 else tag_number_of row ts

-- one number for each tag of a part
abbrev pub tag_numbers : List TagRow → List (List ℕ × List ℕ) → List ℕ
tag_numbers rows tags = map (λ row. tag_number_of row tags) rows

-- the numbers of tags where the router has set the first of them to 2, which is `yes`, or has not set it,
-- whatever the tags say
abbrev pub routed_numbers : (rows : List TagRow) (tags : List (List ℕ × List ℕ)) (is_set : Bool) → List ℕ
routed_numbers rows tags is_set = set (tag_numbers rows tags) 0 (cond is_set 2 0)

-- some of these numbers isn't 0
abbrev pub some_set : List ℕ → Bool
some_set [] = false
some_set (n ∷ ns) = not (n == 0) || some_set ns

-- a number after the first isn't 0
abbrev pub has_set : List ℕ → Bool
has_set [] = false
has_set (n ∷ ns) = some_set ns

-- ---- The text of numbers

-- the value that a number other than 0 is written as: its first spelling, or `unknown` for number 1
abbrev pub value_text : TagRow → ℕ → List ℕ
value_text row number = if number == 1 then codes "unknown" else slice_index_or row.firsts (number - 2) []

-- the tags with a number other than 0 and their values, in the order of the part
abbrev pub printed_tags : List TagRow → List ℕ → List (List ℕ × List ℕ)
printed_tags [] numbers = []
printed_tags (r ∷ rs) [] = []
printed_tags (r ∷ rs) (n ∷ ns) =
    if n == 0 then printed_tags rs ns else (r.name, value_text r n) ∷ printed_tags rs ns

-- a tag with its value, as it is written
abbrev pub item_text : List ℕ × List ℕ → List ℕ
item_text tag = tag.0 ++ 61 ∷ tag.1

-- the text of numbers: the items, parted by one space
abbrev pub tag_text : List TagRow → List ℕ → List ℕ
tag_text rows numbers = join_with_byte 32 (map item_text (printed_tags rows numbers))

-- the numbers are of this part: one for each tag, and none beyond its listed values
abbrev pub AreNumbersOf : List TagRow → List ℕ → Type 0
AreNumbersOf [] [] = Unit {0}
AreNumbersOf [] (n ∷ ns) = ⊥
AreNumbersOf (r ∷ rs) [] = ⊥
AreNumbersOf (r ∷ rs) (n ∷ ns) = (n ≤ length r.firsts + 1) × AreNumbersOf rs ns

-- the value that a number is written as is spelled so first under this number: `unknown` isn't listed
pub record IsFirstSpelling (row : TagRow) (number : ℕ) : Type 0 where
  pub unknown : number ≡ 1 → number_in row.numbers (value_text row number) ≡ None
  pub listed : 2 ≤ number → number_in row.numbers (value_text row number) ≡ Some number

-- each number is written by the first spelling of its value
abbrev pub AreFirstSpellings : List TagRow → List ℕ → Type 0
AreFirstSpellings [] numbers = Unit {0}
AreFirstSpellings (r ∷ rs) [] = Unit {0}
AreFirstSpellings (r ∷ rs) (n ∷ ns) = IsFirstSpelling r n × AreFirstSpellings rs ns
