use Rattle.std.proofs.Common.{◌≡◌, ℕ, ◌+◌, ◌<◌, Some}
use Rattle.cost_model.specs.declared.parts.Carry.{Carry}
use Rattle.bike_space.specs.Closed.{IsCoveredBelow}
use Rattle.route_certificate.specs.Entries.{carry_of, labels_of}
use Rattle.route_certificate.proofs.closing.closes_steps_of.Given as goal

abbrev pub invariant-steps : goal.invariant-steps
invariant-steps g l = (number : ℕ) (state : Carry) (cost : ℕ) → number < l.number →
    (g.S.Space.rules l.space).step (carry_of l.entry) number ≡ Some (state, cost) →
    IsCoveredBelow (g.S.Space.rules l.space) l.least (labels_of l.entries) state (l.entry.cost + cost)
