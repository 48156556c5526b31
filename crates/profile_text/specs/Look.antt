-- The parts of a look: a tag, `=`, and the values that the tag is compared with. After the routing profiles
-- of the developers guide.
use Rattle.std.specs.Prelude.{ℕ, ◌+◌, Bool, true, false, not, ◌&&◌, List, [], ◌∷◌, length, take, drop, nat_lt, ◌==◌, if◌then◌else◌}
use Rattle.std.specs.List.{prefix_len, slice_split}

-- a byte that a tag may hold: all but `=`
abbrev pub is_tag_byte : ℕ → Bool
is_tag_byte c = not (c == 61)

-- how many bytes stand before the first `=`
abbrev pub tag_len : List ℕ → ℕ
tag_len text = prefix_len is_tag_byte text

-- the tag
abbrev pub tag_of : List ℕ → List ℕ
tag_of text = take (tag_len text) text

-- a byte that a value may hold: all but `|`
abbrev pub is_value_byte : ℕ → Bool
is_value_byte c = not (c == 124)

-- the pieces between the bytes `|`
abbrev pub pieces : List ℕ → List (List ℕ)
pieces text = slice_split (λ c. c == 124) text

-- nonempty values parted by `|`, where the first of them has begun or not
abbrev pub are_parted : Bool → List ℕ → Bool
are_parted begun [] = begun
are_parted begun (c ∷ cs) = if c == 124 then begun && are_parted false cs else are_parted true cs

-- what follows the `=` is nothing, or one or more nonempty values
abbrev pub are_values : List ℕ → Bool
are_values [] = true
are_values (c ∷ cs) = are_parted false (c ∷ cs)

-- the values of what follows the `=`; none where nothing does
abbrev pub listed_values : List ℕ → List (List ℕ)
listed_values [] = []
listed_values (c ∷ cs) = pieces (c ∷ cs)

-- the values
abbrev pub values_of : List ℕ → List (List ℕ)
values_of text = listed_values (drop (tag_len text + 1) text)

-- the token is a look: a nonempty tag, `=`, and nothing or nonempty values
abbrev pub is_look : List ℕ → Bool
is_look text =
    nat_lt 0 (tag_len text)
    && (nat_lt (tag_len text) (length text) && are_values (drop (tag_len text + 1) text))
