use Rattle.route_http.proofs.EndLemmas.{LooksOn}
use Rattle.route_http.proofs.ends.first_end.Given as goal

abbrev pub invariant-places : goal.invariant-places
invariant-places l = LooksOn l.bytes l.at
