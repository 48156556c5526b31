use Rattle.std.proofs.Common.{◌≡◌, ◌<◌, ◌≤◌, replicate, arith, sym, subst, ◌∙◌}
use Rattle.space_search.specs.Books.{books, Books, IsAccounted, IsFresh}
use Rattle.space_search.specs.Fronts.{heads_of}
use Rattle.space_search.specs.declared.fronts.Head.TheVariants.{Empty}
use Rattle.space_search.proofs.FreshLemmas.{above-none, stands-none, leaves-none, begins-all, search-fresh, starts-none}
use Rattle.space_search.proofs.ReachLemmas.{follows-start, this-one}
use Rattle.space_search.proofs.TakeLemmas.{has_starts-more}
use Rattle.space_search.proofs.OfferLemmas.{extends-refl}
use Rattle.space_search.proofs.begin.begin.Goals as goal
use Rattle.space_search.proofs.begin.begin.Goals.{in-Some+in_ok-offer, in_default}

pub offer-requires-clause-follows : goal.offer-requires-clause-follows
offer-requires-clause-follows g c =
    follows-start _ (g.met.S.Space.keeps_laws c.args.space.now) (books c.starts.lists) c.starts.choice c.in-Some.found
    (omega (arith, c.starts-choice-end.ensures.value)) c.in-Some.ensures.value

pub starts-preserved : goal.starts-preserved
starts-preserved g c =
    elim c.match-start.branch [
      | in-Some+in_ok-offer w ↦
          let offers = w.in_ok-offer.ensures.offers in
          rw w.lists-is
          (
          record {
            kept = offers.kept;
            starts =
                has_starts-more (g.S.Space.rules c.args.space.now) (books c.starts.lists) (books w.offer.new.lists)
                offers.extends c.starts.choice c.starts.invariant.starts
                (this-one (IsAccounted (g.S.Space.rules c.args.space.now) (books w.offer.new.lists)) _ w.in-Some.found
                w.in-Some.ensures.value offers.accounted);
            bounds = rw w.bounds-is w.in_ok-offer.ensures.bounds;
            none_settled = offers.extends.settled ∙ c.starts.invariant.none_settled;
          }
          )
      | in_default w ↦
          rw w.lists-is
          (
          record {
            kept = c.starts.invariant.kept;
            starts =
                has_starts-more (g.S.Space.rules c.args.space.now) (books c.starts.lists) (books c.starts.lists)
                (extends-refl (books c.starts.lists)) c.starts.choice c.starts.invariant.starts
                (λ s cost is. absurd (w.in_default.not-Some (s, cost) (c.start.ensures.value ∙ is)));
            bounds = rw w.bounds-is c.starts.invariant.bounds;
            none_settled = c.starts.invariant.none_settled;
          }
          )
    ]

pub returns-in_err-renew_heads-clause-leaves : goal.returns-in_err-renew_heads-clause-leaves
returns-in_err-renew_heads-clause-leaves g c =
    let none = c.requires.fresh.settled in
    leaves-none (g.S.Space.rules c.args.space.now) (books c.args.lists.now) none _ (stands-none (g.S.Space.rules c.args.space.now) _ none)

pub starts-init : goal.starts-init
starts-init g c =
    let old = c.requires.fresh in
    let heads : heads_of c.renew_heads.new.heads ≡ replicate (g.S.Space.rules c.args.space.now).slots Empty =
    subst (λ n. heads_of c.renew_heads.new.heads ≡ replicate n Empty) c.slots.ensures.value c.in_ok-renew_heads.ensures.value in
    let fresh_books : Books g.row.T.Denot =
    record (books c.args.lists.now) { heads = heads_of c.renew_heads.new.heads } in
    let fresh : IsFresh fresh_books =
    record { labels = old.labels; queue = old.queue; settled = old.settled; many = old.many } in
    record {
      kept = search-fresh (g.S.Space.rules c.args.space.now) fresh_books fresh heads;
      starts = starts-none (g.S.Space.rules c.args.space.now) fresh_books fresh heads;
      bounds = c.requires.bounds;
      none_settled = old.settled;
    }

pub start-requires : goal.start-requires
start-requires g c = record { within = subst (λ n. c.starts.choice < n) c.starts-choice-end.ensures.value c.starts-test.true }

pub offer-requires-clause-kept : goal.offer-requires-clause-kept
offer-requires-clause-kept g c = c.starts.invariant.kept

pub offer-requires-clause-above : goal.offer-requires-clause-above
offer-requires-clause-above g c =
    above-none (g.S.Space.rules c.args.space.now) (books c.starts.lists) c.starts.invariant.none_settled c.in-Some.found.0 c.in-Some.found.1

pub returns-in_err-offer-clause-leaves : goal.returns-in_err-offer-clause-leaves
returns-in_err-offer-clause-leaves g c =
    leaves-none (g.S.Space.rules c.args.space.now) (books c.args.lists.now) c.requires.fresh.settled (books c.offer.new.lists)
    c.in_err-offer.ensures.leaves.stands

pub returns-in_err-offer-clause-settled : goal.returns-in_err-offer-clause-settled
returns-in_err-offer-clause-settled g c =
    c.in_err-offer.ensures.settled ∙ c.starts.invariant.none_settled ∙ sym c.requires.fresh.settled

pub returns-clause-begins : goal.returns-clause-begins
returns-clause-begins g c =
    begins-all (g.S.Space.rules c.args.space.now) (books c.starts.lists) c.starts.invariant.none_settled c.starts.choice
    c.starts.invariant.kept
    c.starts.invariant.starts (subst (λ n. n ≤ c.starts.choice) c.starts-choice-end.ensures.value c.starts-test.false)

pub returns-clause-leaves : goal.returns-clause-leaves
returns-clause-leaves g c =
    leaves-none (g.S.Space.rules c.args.space.now) (books c.args.lists.now) c.requires.fresh.settled (books c.starts.lists)
    c.starts.invariant.kept.stands

pub returns-clause-settled : goal.returns-clause-settled
returns-clause-settled g c = c.starts.invariant.none_settled ∙ sym c.requires.fresh.settled
