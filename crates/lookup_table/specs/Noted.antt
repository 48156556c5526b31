-- Numbers that are noted from the last tag to the first, and items that are written one after the other.
use Rattle.std.specs.Prelude.{ℕ, List, [], slice_index_or, slice_set, Bool, true, false, ◌∷◌, Option, Some, None}
use Rattle.lookup_table.specs.Numbers.{value_number_of}
use Rattle.lookup_table.specs.Tag.{TagRow, empty_tag, place_of}

-- the numbers with that of a value at a place, if there is one
abbrev pub noted_at : List TagRow → List ℕ → List ℕ → Option ℕ → List ℕ
noted_at rows numbers value None = numbers
noted_at rows numbers value (Some place) =
    slice_set numbers place (value_number_of (slice_index_or rows place (empty_tag [])) value)

-- the numbers with that of one more tag, if the part has it
abbrev pub noted : List TagRow → List ℕ → List ℕ → List ℕ → List ℕ
noted rows numbers name value = noted_at rows numbers value (place_of rows name)

-- an item, after a space unless it is the first
abbrev pub parted : Bool → List ℕ → List ℕ
parted true item = item
parted false item = 32 ∷ item
