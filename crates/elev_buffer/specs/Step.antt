-- What a step over a link pays out of a buffer of climbing or descending, and what it keeps (this project's
-- own rule).
use Rattle.std.specs.Prelude.{ℤ, pos, ◌+ℤ◌, ◌-ℤ◌, ◌*ℤ◌, ◌≤ℤ◌, int_lt, int_le, cond}
use Rattle.std.specs.Int.{int_max, int_min, int_div_euclid}
use Rattle.elev_buffer.specs.declared.steps.Limits.{Limits}
use Rattle.elev_buffer.specs.declared.steps.Stepped.{Stepped}

-- both limits are buffers, and the penalty is not above the most
pub record IsLimits (limits : Limits) : Type 0 where
  pub penalty : pos 0 ≤ℤ limits.penalty
  pub order : limits.penalty ≤ℤ limits.most
  pub most : limits.most ≤ℤ pos 1000000000000000

-- what is paid of a full buffer: the reduction as far as the penalty, but all above the most
unfoldable pub paid_of : Limits → ℤ → ℤ → ℤ
paid_of limits reduction full =
    cond (int_lt limits.penalty full)
    (int_max (int_min reduction (full -ℤ limits.penalty)) (full -ℤ limits.most))
    (pos 0)

-- what is left of a full buffer, which never falls below 0
unfoldable pub left_of : Limits → ℤ → ℤ → ℤ
left_of limits reduction full =
    cond (int_lt limits.penalty full) (full -ℤ paid_of limits reduction full) (int_max full (pos 0))

-- how far into the reduction a full buffer reaches, in millionths
unfoldable pub weight_of : Limits → ℤ → ℤ → ℤ
weight_of limits reduction full =
    cond (int_lt limits.penalty full)
    (cond (int_le reduction (full -ℤ limits.penalty)) (pos 1000000)
    (int_div_euclid (pos 1000000 *ℤ (full -ℤ limits.penalty)) reduction))
    (pos 0)

-- what is made of a full buffer
unfoldable pub settled_of : Limits → ℤ → ℤ → Stepped
settled_of limits reduction full = record {
  e = left_of limits reduction full;
  paid = paid_of limits reduction full;
  weight = weight_of limits reduction full;
}

-- a step from a buffer, by what is added to it and by how much it is reduced
unfoldable pub step_of : Limits → ℤ → ℤ → ℤ → Stepped
step_of limits added reduction buffer = settled_of limits reduction (buffer +ℤ added)

-- none of the three is more than in the other step
pub record IsNoMore (less more : Stepped) : Type 0 where
  pub e : less.e ≤ℤ more.e
  pub paid : less.paid ≤ℤ more.paid
  pub weight : less.weight ≤ℤ more.weight
