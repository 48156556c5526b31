-- This project's own rule: how the cases are counted.
use Rattle.std.specs.Prelude.{ℕ, ◌+◌, min, Option, Some, None}

-- a count after one more, which stands still at its last value
abbrev pub one_more : ℕ → ℕ
one_more n = min (n + 1) 18446744073709551615

-- the count of the cases that differ, where this is told of one
abbrev pub counted : {T : Type 0} → Option T → ℕ → ℕ
counted None n = n
counted (Some told) n = one_more n
