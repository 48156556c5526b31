-- Lengths and heights as decimal texts (this project's own rule).
use Rattle.std.specs.Prelude.{ℕ, suc, ℤ, pos, negsuc, ◌+◌, ◌/◌, ◌%◌, List, [], ◌∷◌, ◌++◌, decimal}
use Rattle.std.specs.Int.{int_div_euclid}

-- the digit of a number below ten, as a byte
abbrev pub digit : ℕ → ℕ
digit n = 48 + n

-- a point and three decimals
unfoldable pub three_decimals : ℕ → List ℕ
three_decimals n = 46 ∷ digit (n / 100) ∷ digit (n / 10 % 10) ∷ digit (n % 10) ∷ []

-- millimetres as metres with exactly three decimals
unfoldable pub metres_text : ℕ → List ℕ
metres_text n = decimal (n / 1000) ++ three_decimals (n % 1000)

-- a point and two decimals
unfoldable pub two_decimals : ℕ → List ℕ
two_decimals n = 46 ∷ digit (n / 10) ∷ digit (n % 10) ∷ []

-- hundredths with exactly two decimals
unfoldable pub hundredths_text : ℕ → List ℕ
hundredths_text n = decimal (n / 100) ++ two_decimals (n % 100)

-- the same for a signed number, with a minus where it is below 0
unfoldable pub signed_hundredths_text : ℤ → List ℕ
signed_hundredths_text (pos n) = hundredths_text n
signed_hundredths_text (negsuc n) = 45 ∷ hundredths_text (suc n)

-- micrometres as metres with exactly two decimals, rounded down
unfoldable pub height_text : ℤ → List ℕ
height_text micrometres = signed_hundredths_text (int_div_euclid micrometres (pos 10000))
