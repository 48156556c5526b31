use Rattle.std.proofs.Common.{◌∙◌, ap, arith}
use Rattle.std.proofs.lemmas.Result.{on_ok_weaker}
use Rattle.space_search.proofs.OfferLemmas.{offers-pushed, leaves-pushed}
use Rattle.space_search.proofs.offer.enqueue.Goals as goal

pub returns-clause-offers : goal.returns-clause-offers
returns-clause-offers g c =
    on_ok_weaker c.push.result
    (λ puts.
    offers-pushed _ _ c.args.label _ _ c.requires.kept c.in_ok-add_label.ensures.value
    (record {
      entry = _;
      rank = c.args.rank;
      follows = c.requires.follows;
      above = c.requires.above;
      ranked = c.requires.ranked;
      room = omega (arith, c.in_ok-number.ensures.exact.1, c.len.ensures, c.args.lists.now.labels.ok.0);
      is = ap (λ n. (c.args.rank, n)) (c.in_ok-number.ensures.exact.0 ∙ c.len.ensures ∙ c.args.lists.now.labels.ok.0);
      queued = puts;
    }))
    c.push.ensures.puts

pub returns-clause-leaves : goal.returns-clause-leaves
returns-clause-leaves g c = leaves-pushed _ _ c.args.label _ _ c.requires.kept c.in_ok-add_label.ensures.value
