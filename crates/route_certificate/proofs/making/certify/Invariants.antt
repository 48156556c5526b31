use Rattle.route_certificate.proofs.CertifiedLemmas.{AreShownTo}
use Rattle.route_certificate.proofs.making.certify.Given as goal

abbrev pub invariant-legs : goal.invariant-legs
invariant-legs g l = AreShownTo (g.G.TerrainOf.terrain l.terrain) l.ask l.bound l.place l.legs.items
