use Rattle.std.proofs.Common.{◌+◌, length, refl, sym, ◌∙◌}
use Rattle.space_search.specs.Books.{books, by_label, by_bound}
use Rattle.space_search.proofs.OfferLemmas.{offers-accounted, leaves-same}
use Rattle.space_search.proofs.ReachLemmas.{small-cost}
use Rattle.space_search.proofs.offer.offer.Goals as goal

pub is_covered-requires-clause-later : goal.is_covered-requires-clause-later
is_covered-requires-clause-later g c =
    record {
      valid = c.requires.follows.valid;
      rank = c.args.label.cost + c.in-Some.low;
      ranked = record { low = c.in-Some.low; is = sym c.in_ok-told.ensures.value ∙ c.in-Some.is; sum = refl };
      above = c.requires.above;
    }

pub low-requires : goal.low-requires
low-requires g c = record { valid = c.requires.follows.valid; are = c.requires.bounds }

pub returns-in_default-clause-offers : goal.returns-in_default-clause-offers
returns-in_default-clause-offers g c =
    offers-accounted (g.S.Space.rules c.args.space.now) (books c.args.lists.now) c.args.label c.requires.kept
    (by_bound (sym c.in_ok-told.ensures.value ∙ c.in_default.is))

pub returns-in_default-clause-leaves : goal.returns-in_default-clause-leaves
returns-in_default-clause-leaves g c = leaves-same (g.S.Space.rules c.args.space.now) (books c.args.lists.now) c.requires.kept

pub is_covered-requires-clause-small : goal.is_covered-requires-clause-small
is_covered-requires-clause-small g c =
    small-cost c.args.label.cost (length c.args.lists.now.settled.items) c.requires.follows.bounded
    c.requires.kept.stands.reads.few_settled

pub is_covered-requires-clause-kept : goal.is_covered-requires-clause-kept
is_covered-requires-clause-kept g c = c.requires.kept

pub returns-then-is_covered-clause-offers : goal.returns-then-is_covered-clause-offers
returns-then-is_covered-clause-offers g c =
    offers-accounted (g.S.Space.rules c.args.space.now) (books c.args.lists.now) c.args.label c.requires.kept
    (by_label (c.is_covered.ensures.covered c.if-is_covered.true))

pub returns-then-is_covered-clause-leaves : goal.returns-then-is_covered-clause-leaves
returns-then-is_covered-clause-leaves g c = leaves-same (g.S.Space.rules c.args.space.now) (books c.args.lists.now) c.requires.kept

pub enqueue-requires-clause-kept : goal.enqueue-requires-clause-kept
enqueue-requires-clause-kept g c = c.requires.kept

pub enqueue-requires-clause-follows : goal.enqueue-requires-clause-follows
enqueue-requires-clause-follows g c = c.requires.follows

pub enqueue-requires-clause-above : goal.enqueue-requires-clause-above
enqueue-requires-clause-above g c = c.requires.above

pub enqueue-requires-clause-ranked : goal.enqueue-requires-clause-ranked
enqueue-requires-clause-ranked g c = record { low = c.in-Some.low; is = sym c.in_ok-told.ensures.value ∙ c.in-Some.is; sum = refl }

pub returns-clause-offers : goal.returns-clause-offers
returns-clause-offers g c = c.enqueue.ensures.offers

pub returns-clause-leaves : goal.returns-clause-leaves
returns-clause-leaves g c = c.enqueue.ensures.leaves

pub returns-clause-settled : goal.returns-clause-settled
returns-clause-settled g c = c.enqueue.ensures.settled
