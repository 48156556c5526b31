use Rattle.route_certificate.specs.Index.{ArePlaced}
use Rattle.route_certificate.proofs.rows.rows_of.Given as goal

abbrev pub invariant-entries : goal.invariant-entries
invariant-entries g l = ArePlaced (g.S.Space.rules l.space) l.entries l.place l.rows.items
