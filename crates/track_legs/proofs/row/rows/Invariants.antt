use Rattle.std.proofs.Common.{◌≡◌, take}
use Rattle.track_legs.specs.Rows.{rows_of_legs}
use Rattle.track_legs.proofs.row.rows.Given as goal

abbrev pub invariant-legs : goal.invariant-legs
invariant-legs g l = l.rows ≡ rows_of_legs l.rates (g.F.FactsOf.links l.facts).facts (take l.place l.track.legs)
