-- The size of a whole number, read digit by digit (this project's own rule).
use Rattle.std.specs.Prelude.{ℕ, ◌+◌, ◌-◌, ◌*◌, nat_le, Bool, ℤ, List, [], ◌∷◌, Option, Some, None, if◌then◌else◌}
use Rattle.std.specs.Char.{is_ascii_digit}
use Rattle.fixed_num.specs.Decimal.{with_sign}
use Rattle.map_elements.specs.Fields.{fits_64}

-- the number that digits spell after the number that the digits before them spell, none where a byte is no
-- digit or the number is above 2^63
abbrev pub size_from : ℕ → List ℕ → Option ℕ
size_from n [] = if nat_le n 9223372036854775808 then Some n else None
size_from n (c ∷ cs) = if is_ascii_digit c then size_from (10 * n + (c - 48)) cs else None

-- the number that digits spell, of which there is one at least
abbrev pub size_in : List ℕ → Option ℕ
size_in [] = None
size_in (c ∷ cs) = size_from 0 (c ∷ cs)

-- the size with its sign, where it fits
abbrev pub signed_size : Bool → ℕ → Option ℤ
signed_size negative size = if fits_64 negative size then Some (with_sign negative size) else None
