-- This project's own rule: how an object of the outside counts its calls and faults.
use Rattle.std.specs.Prelude.{ℕ, zero, suc, ◌+◌, ◌<◌, ◌≤◌, ◌≡◌, ◌⊎◌, min}

-- the last value of a count, where it stands still
abbrev pub last_count : ℕ
last_count = 18446744073709551615

-- a count after one more
abbrev pub next_count : ℕ → ℕ
next_count n = min (n + 1) last_count

-- a count after so many more
abbrev pub count_after : ℕ → ℕ → ℕ
count_after zero count = count
count_after (suc n) count = next_count (count_after n count)

-- the count rose; one that stands at its last value counts as risen
pub record CountRose (old new : ℕ) : Type 0 where
  pub never_falls : old ≤ new
  pub rose : (old < new) ⊎ (new ≡ last_count)
