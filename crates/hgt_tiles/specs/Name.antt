-- The corner that the name of a file of heights tells, as N49E008.hgt (the HGT naming).
use Rattle.std.specs.Prelude.{ℕ, ◌+◌, ◌-◌, ◌*◌, ℤ, pos, neg_ℤ, List, length, slice_index, Bool, true, false, cond, ◌&&◌, ◌||◌, ◌==◌, nat_le, Option, Some, None}
use Rattle.hgt_tiles.specs.declared.names.Corner.{Corner}
use Rattle.item_list.specs.Bytes.{base_name, is_digit}

-- a letter in either case, by its capital
abbrev pub is_letter : ℕ → ℕ → Bool
is_letter capital byte = (byte == capital) || (byte == capital + 32)

-- the two digits of a latitude and the three of a longitude are there
abbrev pub digits_are_there : List ℕ → Bool
digits_are_there part =
    is_digit (slice_index part 1) && is_digit (slice_index part 2)
    && is_digit (slice_index part 4) && is_digit (slice_index part 5) && is_digit (slice_index part 6)

-- both letters are there, and the ending
abbrev pub letters_are_there : List ℕ → Bool
letters_are_there part =
    (is_letter 78 (slice_index part 0) || is_letter 83 (slice_index part 0))
    && (is_letter 69 (slice_index part 3) || is_letter 87 (slice_index part 3))
    && (slice_index part 7 == 46) && (slice_index part 8 == 104)
    && (slice_index part 9 == 103) && (slice_index part 10 == 116)

-- N or S, two digits, E or W, three digits, and .hgt
abbrev pub is_spelled : List ℕ → Bool
is_spelled part = (length part == 11) && letters_are_there part && digits_are_there part

-- the degrees of latitude that two digits tell
abbrev pub lat_digits : List ℕ → ℕ
lat_digits part = (slice_index part 1 - 48) * 10 + (slice_index part 2 - 48)

-- the degrees of longitude that three digits tell
abbrev pub lon_digits : List ℕ → ℕ
lon_digits part = (slice_index part 4 - 48) * 100 + (slice_index part 5 - 48) * 10 + (slice_index part 6 - 48)

-- a number of degrees, below 0 where the letter is this one, if it is within so many either way
abbrev pub signed_degrees : Bool → ℕ → ℕ → Option ℤ
signed_degrees true degrees most = cond (nat_le degrees most) (Some (neg_ℤ (pos degrees))) None
signed_degrees false degrees most = cond (nat_le (degrees + 1) most) (Some (pos degrees)) None

-- a corner of two numbers that are there
abbrev pub corner_of_both : Option ℤ → Option ℤ → Option Corner
corner_of_both (Some lon) (Some lat) = Some (record { lon = lon; lat = lat })
corner_of_both (Some lon) None = None
corner_of_both None lat = None

-- the corner of a spelled part: from 90 degrees south to 89 north and from 180 west to 179 east
abbrev pub corner_of_part : List ℕ → Option Corner
corner_of_part part =
    cond (is_spelled part)
    (corner_of_both
    (signed_degrees (is_letter 87 (slice_index part 3)) (lon_digits part) 180)
    (signed_degrees (is_letter 83 (slice_index part 0)) (lat_digits part) 90))
    None

-- the corner that a name tells
abbrev pub corner_of_name : List ℕ → Option Corner
corner_of_name name = corner_of_part (base_name name)
