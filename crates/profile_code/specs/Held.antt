-- Numbers in a list that has room from the start. This project's own rule.
use Rattle.std.specs.Prelude.{ℕ, List, ℤ}

-- the numbers, and how many there is room for
pub record Held : Type 0 where
  pub numbers : List ℤ
  pub room : ℕ
