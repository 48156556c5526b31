-- The buffer stays within the limits.
use Rattle.std.proofs.Common.{pos, ◌≤ℤ◌}
use Rattle.map_cases.proofs.timed.climb.steps.Given as goal

abbrev pub invariant-steps : goal.invariant-steps
invariant-steps l = (pos 0 ≤ℤ l.buffer) × (l.buffer ≤ℤ pos 10000000)
