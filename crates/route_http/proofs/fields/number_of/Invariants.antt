use Rattle.std.proofs.Common.{drop}
use Rattle.route_http.proofs.FieldLemmas.{CountsOn}
use Rattle.route_http.proofs.fields.number_of.Given as goal

abbrev pub invariant-digits : goal.invariant-digits
invariant-digits l = CountsOn l.text (drop l.byte-index l.text) l.number
