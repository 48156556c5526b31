use Rattle.std.proofs.Common.{◌≡◌, ◌<◌, ◌≤◌, ◌*◌, ◌^◌, take}
use Rattle.cost_model.specs.Walks.{walk_cost}
use Rattle.track_legs.proofs.CostLemmas.{IsPaidSoFar}
use Rattle.track_legs.proofs.costs.cost_along.Given as goal

abbrev pub invariant-links : goal.invariant-links
invariant-links g l =
    IsPaidSoFar l.rates (g.F.FactsOf.links l.facts).count (g.F.FactsOf.links l.facts).facts (take l.place l.walk)
    l.carry
    × (walk_cost l.rates (g.F.FactsOf.links l.facts).facts (take l.place l.walk) ≡ l.cost)
    × (l.cost < 2 ^ 128)
    × (l.cost ≤ l.place * 2 ^ 81)
