-- The fixed-point number, this project's own rule: a whole count of millionths within a bound.
use Rattle.std.specs.Prelude.{◌≤◌, ℤ, unsigned_abs}

-- the count of millionths is a number's: from -10^15 to 10^15
abbrev pub IsNumber : ℤ → Type 0
IsNumber n = unsigned_abs n ≤ 1000000000000000
