use Rattle.std.proofs.Common.{◌≡◌, ◌++◌, take}
use Rattle.track_legs.specs.Rows.{rows_before}
use Rattle.track_legs.proofs.CostLemmas.{IsPaidSoFar}
use Rattle.track_legs.proofs.row.add_rows.Given as goal

abbrev pub invariant-links : goal.invariant-links
invariant-links g l =
    IsPaidSoFar l.rates (g.F.FactsOf.links l.facts).count (g.F.FactsOf.links l.facts).facts (take l.place l.walk)
    l.carry
    × (l.rows ≡ l.fn.rows ++ rows_before l.rates (g.F.FactsOf.links l.facts).facts l.walk l.place)
