-- The tags of a part with their listed values, after `lookups.dat`.
use Rattle.std.specs.Prelude.{◌≡◌, ℕ, suc, ◌+◌, ◌≤◌, Bool, List, [], ◌∷◌, ◌++◌, length, map, nat_lt, is_some, Option, Some, None, if◌then◌else◌}
use Rattle.std.specs.Map.{lookup}
use Rattle.std.specs.Option.{option_map}
use Rattle.std.specs.Str.{bytes_eq}

-- a tag: its name, the first spelling of each listed value in order, and each spelling once with its value's
-- number
pub record TagRow : Type 0 where
  pub name : List ℕ
  pub firsts : List (List ℕ)
  pub numbers : List (List ℕ × ℕ)

-- the number of a spelling, if it is listed
abbrev pub number_in : List (List ℕ × ℕ) → List ℕ → Option ℕ
number_in numbers spelling = lookup (bytes_eq spelling) numbers

-- a spelling gets a number unless it has one
abbrev pub add_spelling : List (List ℕ × ℕ) → ℕ → List ℕ → List (List ℕ × ℕ)
add_spelling numbers number spelling =
    if is_some (number_in numbers spelling) then numbers else numbers ++ (spelling, number) ∷ []

-- the same for one spelling after the other
abbrev pub add_spellings : List (List ℕ × ℕ) → ℕ → List (List ℕ) → List (List ℕ × ℕ)
add_spellings numbers number [] = numbers
add_spellings numbers number (s ∷ ss) = add_spellings (add_spelling numbers number s) number ss

-- the first of a value's spellings
abbrev pub first_of : List (List ℕ) → List ℕ
first_of [] = []
first_of (s ∷ ss) = s

-- a tag with one more value, given by its spellings: number 2 is the first value's
abbrev pub add_value : TagRow → List (List ℕ) → TagRow
add_value tag spellings = record {
  name = tag.name;
  firsts = tag.firsts ++ first_of spellings ∷ [];
  numbers = add_spellings tag.numbers (length tag.firsts + 2) spellings;
}

-- a tag without values
abbrev pub empty_tag : List ℕ → TagRow
empty_tag name = record { name = name; firsts = []; numbers = [] }

-- each number is that of one of so many listed values
abbrev pub AreWithin : ℕ → List (List ℕ × ℕ) → Type 0
AreWithin values [] = Unit {0}
AreWithin values (e ∷ es) = (2 ≤ e.1) × (e.1 ≤ values + 1) × AreWithin values es

-- numbers of so many listed values stay so, where the number that may be added is that of one of them
abbrev pub KeepWithin : ℕ → List (List ℕ × ℕ) → List (List ℕ × ℕ) → Type 0
KeepWithin number old new =
    (values : ℕ) → 2 ≤ number → number ≤ values + 1 → AreWithin values old → AreWithin values new

-- the numbers of a tag are those of its listed values
abbrev pub IsSound : TagRow → Type 0
IsSound tag = AreWithin (length tag.firsts) tag.numbers

-- ---- The tags of a part

-- so are those of each tag
abbrev pub AreSound : List TagRow → Type 0
AreSound [] = Unit {0}
AreSound (t ∷ ts) = IsSound t × AreSound ts

-- the place of a name in a list of names
abbrev pub name_place : List (List ℕ) → List ℕ → Option ℕ
name_place [] name = None
name_place (x ∷ xs) name = if bytes_eq name x then Some 0 else option_map suc (name_place xs name)

-- no name comes twice
abbrev pub AreDistinct : List (List ℕ) → Type 0
AreDistinct [] = Unit {0}
AreDistinct (x ∷ xs) = (name_place xs x ≡ None) × AreDistinct xs

-- the names of a part's tags
abbrev pub names_of : List TagRow → List (List ℕ)
names_of rows = map (λ t. t.name) rows

-- the place of a tag in its part
abbrev pub place_of : List TagRow → List ℕ → Option ℕ
place_of rows name = name_place (names_of rows) name

-- a line of a part adds its value to the tag that it names, or adds that tag at the end
abbrev pub add_line : List TagRow → List ℕ → List (List ℕ) → List TagRow
add_line [] name spellings = add_value (empty_tag name) spellings ∷ []
add_line (t ∷ ts) name spellings =
    if bytes_eq name t.name then add_value t spellings ∷ ts else t ∷ add_line ts name spellings

-- how many values a tag has, if the part has the tag
abbrev pub values_of : List TagRow → List ℕ → Option ℕ
values_of [] name = None
values_of (t ∷ ts) name = if bytes_eq name t.name then Some (length t.firsts) else values_of ts name

-- there is room for a line's value: 4,096 values of a tag, and 1,024 tags of a part
abbrev pub room_for : Option ℕ → ℕ → Bool
room_for None tags = nat_lt tags 1024
room_for (Some values) tags = nat_lt values 4096

-- there is room for one more line that names this tag
abbrev pub has_room : List TagRow → List ℕ → Bool
has_room rows name = room_for (values_of rows name) (length rows)
