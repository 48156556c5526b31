-- Search spaces: what a space answers, as a record of functions. This project's own rule.
use Rattle.std.specs.Prelude.{ℕ, ◌^◌, ◌≤ℤ◌, Bool, Option}
use Rattle.space_search.specs.declared.point.Point.{Point}

-- the first point has no number greater than the second
pub record IsUnder (a b : Point) : Type 0 where
  pub x : a.x ≤ℤ b.x
  pub y : a.y ≤ℤ b.y
  pub z : a.z ≤ℤ b.z

-- what a space over the states S answers: its states by a test of validity; its cells, by which labels are
-- counted, and its slots, by which the covering test finds them; its starts and its steps by number (none
-- where one isn't permitted, else the state reached and what that costs), its goals, when a state at a cost
-- makes another at a cost needless, the point of a state at a cost, by which the covering test finds it, and a
-- lower bound of what is still to pay from a state to a goal (none where no goal is reached from there)
pub record Rules (S : Type 0) : Type 0 where
  pub is_valid : S → Bool
  pub cells : ℕ
  pub cell : S → ℕ
  pub slots : ℕ
  pub slot : S → ℕ
  pub starts : ℕ
  pub start : ℕ → Option (S × ℕ)
  pub steps : S → ℕ
  pub step : S → ℕ → Option (S × ℕ)
  pub is_goal : S → Bool
  pub covers : S → ℕ → S → ℕ → Bool
  pub point : S → ℕ → Point
  pub low : S → Option ℕ

-- one start or step costs less than this
abbrev pub COST_BOUND : ℕ
COST_BOUND = 2 ^ 90

-- a lower bound is less than this, and so is each cost that is compared by covering
abbrev pub LOW_BOUND : ℕ
LOW_BOUND = 2 ^ 126
