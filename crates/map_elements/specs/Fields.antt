-- What stands in the fields of an element: texts, numbers, whole numbers, lists of them, tags and members
-- (the JSON profile of Overpass that this project reads).
use Rattle.std.specs.Prelude.{ℕ, nat_le, ℤ, Bool, true, false, ◌||◌, List, [], ◌∷◌, Option, Some, None, if◌then◌else◌}
use Rattle.std.specs.Str.{bytes_eq}
use lib.Chars.{codes}
use Rattle.fixed_num.specs.Decimal.{Decimal, digits_after, parts_of, with_sign}
use Rattle.json_text.specs.Marks.{Step}
use Rattle.map_tables.specs.Kept.{Tag}
use Rattle.map_tables.specs.declared.member.Member.{Member}
use Rattle.map_elements.specs.Entries.{Entry, members_of, items_of, member, values_of}

-- goes on with a value that is there
abbrev pub with_some : {A B : Type 0} → Option A → (A → Option B) → Option B
with_some None go = None
with_some (Some a) go = go a

-- the content of a value that is a text
abbrev pub text_of : List Step → Option (List ℕ)
text_of (Step.Text text ∷ []) = Some text
text_of _ = None

-- the text of a value that is a number
abbrev pub number_of : List Step → Option (List ℕ)
number_of (Step.Number text ∷ []) = Some text
number_of _ = None

-- ---- Whole numbers

-- a size with its sign fits into 64 bits
abbrev pub fits_64 : Bool → ℕ → Bool
fits_64 true size = nat_le size 9223372036854775808
fits_64 false size = nat_le size 9223372036854775807

-- the whole number of the parts of a decimal text: nothing stands behind a point, and it fits into 64 bits
abbrev pub whole_part : Decimal → Option ℤ
whole_part d = by_fraction d.fraction
  where
    by_fraction : List ℕ → Option ℤ
    by_fraction [] =
        if fits_64 d.is_negative (digits_after 0 d.whole) then Some
        (with_sign d.is_negative (digits_after 0 d.whole)) else None
    by_fraction (c ∷ cs) = None

-- the whole number of a text: an optional `-` and digits, within 64 bits
unfoldable pub whole_of : List ℕ → Option ℤ
whole_of text = with_some (parts_of text) whole_part

-- the whole number of a value that is a number
abbrev pub whole_number_of : List Step → Option ℤ
whole_number_of value = with_some (number_of value) whole_of

-- the whole numbers of values, none where one of them is something else
abbrev pub whole_numbers_of : List (List Step) → Option (List ℤ)
whole_numbers_of [] = Some []
whole_numbers_of (value ∷ values) =
    with_some (whole_number_of value) (λ n. with_some (whole_numbers_of values) (λ ns. Some (n ∷ ns)))

-- the whole numbers of a value that is an array of them
abbrev pub whole_list_of : List Step → Option (List ℤ)
whole_list_of value = with_some (items_of value) (λ items. whole_numbers_of (values_of items))

-- ---- Tags

-- a name is one of these
abbrev pub is_among : List ℕ → List (List ℕ) → Bool
is_among name [] = false
is_among name (other ∷ others) = bytes_eq name other || is_among name others

-- the tags of members behind those of these names: each first member of a name has a text, and later ones of
-- that name are read past
abbrev pub tags_from : List (List ℕ) → List Entry → Option (List Tag)
tags_from names [] = Some []
tags_from names (entry ∷ entries) =
    with_some entry.name (λ name.
    if is_among name names then tags_from names entries
    else with_some (text_of entry.value) (λ text.
    with_some (tags_from (name ∷ names) entries) (λ tags. Some ((name, text) ∷ tags))))

-- the tags of a value that is an object of texts
abbrev pub tags_in : List Step → Option (List Tag)
tags_in value = with_some (members_of value) (tags_from [])

-- the tags of an element: it may have no member `tags`
abbrev pub tags_of : List Entry → Option (List Tag)
tags_of entries = by_value (member (codes "tags") entries)
  where
    by_value : Option (List Step) → Option (List Tag)
    by_value None = Some []
    by_value (Some value) = tags_in value

-- ---- Members of relations

-- the member of a relation that a value stands for: an object with a text `type`, a whole `ref` and a text
-- `role`
abbrev pub member_of : List Step → Option Member
member_of value =
    with_some (members_of value) (λ entries.
    with_some (with_some (member (codes "type") entries) text_of) (λ kind.
    with_some (with_some (member (codes "ref") entries) whole_number_of) (λ ref.
    with_some (with_some (member (codes "role") entries) text_of) (λ role.
    Some (record { kind = kind; reference = ref; role = role })))))

-- the members that values stand for, none where one of them stands for none
abbrev pub members_from : List (List Step) → Option (List Member)
members_from [] = Some []
members_from (value ∷ values) =
    with_some (member_of value) (λ m. with_some (members_from values) (λ ms. Some (m ∷ ms)))

-- the members of a value that is an array of them
abbrev pub member_list_of : List Step → Option (List Member)
member_list_of value = with_some (items_of value) (λ items. members_from (values_of items))
