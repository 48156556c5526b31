use Rattle.form_urlencoded.specs.Parse.{pairs_left}
use Rattle.route_http.specs.Seen.{parts_seen}
use Rattle.route_http.proofs.PairLemmas.{TakesOn}
use Rattle.route_http.proofs.query.take_all.Given as goal

abbrev pub invariant-pairs : goal.invariant-pairs
invariant-pairs l = record {
  can : (goal.iterator-pairs).can_next l.pair-iterator;
  finite : (goal.iterator-pairs).is_finite l.pair-iterator;
  takes : TakesOn l.query (parts_seen l.fn.draft) l.place (pairs_left l.pair-iterator) (parts_seen l.draft);
}
