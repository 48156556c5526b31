-- The text of a count of millionths, this project's own rule.
use Rattle.std.specs.Prelude.{ℕ, zero, suc, ◌+◌, ◌/◌, ◌%◌, ◌^◌, List, [], ◌∷◌, ◌++◌, ℤ, unsigned_abs}
use Rattle.std.specs.Fmt.{decimal}
use Rattle.std.specs.Int.{is_negative}
use Rattle.fixed_num.specs.Decimal.{sign_text}

-- the last digits of a number, so many, the highest first
abbrev pub last_digits : ℕ → ℕ → List ℕ
last_digits zero n = []
last_digits (suc k) n = (48 + n / 10 ^ k % 10) ∷ last_digits k n

-- the text of a count of millionths: `-` where it is negative, the whole number, a point and exactly six
-- decimals
unfoldable pub mil6 : ℤ → List ℕ
mil6 n =
    sign_text (is_negative n)
    ++ (decimal (unsigned_abs n / 1000000) ++ 46 ∷ last_digits 6 (unsigned_abs n % 1000000))
