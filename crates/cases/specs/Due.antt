-- States of a place and what is due there, as the spaces that are searched have them. This project's own
-- rule.
use Rattle.std.specs.Prelude.{ℕ, pos, Bool, true, false, cond, ◌==◌, nat_lt}
use Rattle.space_search.specs.declared.point.Point.{Point}

-- the same place with no more due, at no greater cost
abbrev pub due_covers : ℕ × ℕ → ℕ → ℕ × ℕ → ℕ → Bool
due_covers a ca b cb = cond (a.0 == b.0) (cond (nat_lt b.1 a.1) false (cond (nat_lt cb ca) false true)) false

-- the point of a state at a cost: what is due, and the cost
abbrev pub due_point : ℕ × ℕ → ℕ → Point
due_point state cost = record { x = pos state.1; y = pos cost; z = pos 0 }
