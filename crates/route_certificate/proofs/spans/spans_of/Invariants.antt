use Rattle.route_certificate.specs.Index.{AreSpans}
use Rattle.route_certificate.proofs.spans.spans_of.Given as goal

abbrev pub invariant-rows : goal.invariant-rows
invariant-rows l = AreSpans l.slots l.rows l.place l.spans.items
