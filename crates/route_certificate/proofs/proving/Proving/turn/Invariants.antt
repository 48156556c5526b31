use Rattle.std.proofs.Common.{◌≡◌, ℕ, ◌+◌, ◌≤◌}
use Rattle.certificate_text.specs.declared.certificate.LowerBound.{LowerBound}
use Rattle.cost_model.specs.Rides.{Leg}
use Rattle.route_certificate.specs.Provings.{IsProvingFor, counted_of, stages_left}
use Rattle.route_certificate.proofs.proving.Proving.turn.Given as goal

abbrev pub invariant-steps : goal.invariant-steps
invariant-steps g l =
    let terrain = g.G.TerrainOf.terrain l.terrain in
    record {
      some_on : (bound : LowerBound) × (leg : Leg) × (limit : ℕ) × IsProvingFor terrain bound leg limit l.proving;
      on : (bound : LowerBound) (leg : Leg) (limit : ℕ) → IsProvingFor terrain bound leg limit l.initial.proving →
          IsProvingFor terrain bound leg limit l.proving;
      some : 1 ≤ l.left;
      counted : counted_of l.proving + l.left ≡ counted_of l.initial.proving + l.quota;
      few : l.left ≤ l.quota;
    }

abbrev pub decreases-steps : goal.decreases-steps
decreases-steps g l = stages_left l.proving.stage + l.left
