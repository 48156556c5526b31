use Rattle.route_certificate.proofs.VerdictLemmas.{IsCheckedTo}
use Rattle.route_certificate.proofs.checking.verify.Given as goal

abbrev pub invariant-legs : goal.invariant-legs
invariant-legs g l = IsCheckedTo (g.G.TerrainOf.terrain l.terrain) l.ask l.certificate l.place l.cost
