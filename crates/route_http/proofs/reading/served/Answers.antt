use Rattle.std.proofs.Common.{sym, ◌∙◌}
use Rattle.route_http.proofs.HeadLemmas.{told_some}
use Rattle.route_http.proofs.reading.served.Goals as goal

pub returns-in-Some : goal.returns-in-Some
returns-in-Some c = record {
  exact = told_some c.args.head.now c.args.headers.now c.args.parts.now c.in-Some.body c.whole.result c.requires.parsed
      c.if-parts-head.false (sym c.body_of.ensures.exact ∙ c.in-Some.is) c.whole.ensures.exact;
}
