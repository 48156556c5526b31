use Rattle.std.proofs.Common.{◌≡◌, ℕ, ◌<◌, Some}
use Rattle.cost_model.specs.declared.parts.Carry.{Carry}
use Rattle.bike_space.specs.Closed.{IsCoveredBelow}
use Rattle.route_certificate.specs.Entries.{labels_of}
use Rattle.route_certificate.proofs.closing.closes_starts.Given as goal

abbrev pub invariant-starts : goal.invariant-starts
invariant-starts g l = (number : ℕ) (state : Carry) (cost : ℕ) → number < l.number →
    (g.S.Space.rules l.space).start number ≡ Some (state, cost) →
    IsCoveredBelow (g.S.Space.rules l.space) l.least (labels_of l.entries) state cost
