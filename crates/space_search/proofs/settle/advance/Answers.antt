use Rattle.std.proofs.Common.{arith, ap, refl, sym, ◌≡◌, ◌+◌, ◌-◌, ◌∙◌, length}
use Rattle.space_search.specs.Books.{books}
use Rattle.space_search.proofs.KnownLemmas.{all-offered, known-accounted, known-fit, step-at}
use Rattle.space_search.proofs.OfferLemmas.{extends-refl, leaves-same, work-same}
use Rattle.space_search.proofs.ReachLemmas.{settled-valid, settled-small, step-fits, follows-step, above-step}
use Rattle.space_search.proofs.SameLemmas.{settled-within}
use Rattle.space_search.proofs.TakeLemmas.{none-offered, accounted-extended, offered-more, extends-trans, closed-advanced, settled-extended, leaves-extended}
use Rattle.space_search.proofs.settle.advance.Goals as goal

pub overflow_add-reached : goal.overflow_add-reached
overflow_add-reached g c =
    let n = length c.args.lists.now.settled.items in
    let one = c.step-item.result in
    let step =
    step-at (g.S.Space.rules c.args.space.now) _ c.args.label.now.state c.args.label.now.cost c.as_slice-step-items.result.now
    c.steps.step-index
    c.step-item.result (rw (sym c.as_slice-step-items.ensures.value) at c.in_ok-list_steps.ensures.lists) c.steps-test.true
    c.step-item.is in
    omega (
      arith,
      step-fits _ (g.met.S.Space.keeps_laws c.args.space.now) (books c.args.lists.now) c.requires.kept (n - 1) c.args.label.now
          c.requires.now (omega (arith, settled-within _ _ _ c.requires.now)) one.choice (one.state, one.cost)
          step.0 (sym step.1),
    )

pub list_steps-requires-clause-known : goal.list_steps-requires-clause-known
list_steps-requires-clause-known g c =
    known-fit (g.S.Space.rules c.args.space.now) (books c.args.lists.now) c.requires.kept _ refl
    (g.met.S.Space.keeps_laws c.args.space.now)

-- the parts of the goals that follow: the newest settled label stands where it stood
pub offer-requires-clause-follows : goal.offer-requires-clause-follows
offer-requires-clause-follows g c =
    let one = c.step-item.result in
    let step =
    step-at (g.S.Space.rules c.args.space.now) _ c.args.label.now.state c.args.label.now.cost c.as_slice-step-items.result.now
    c.steps.step-index
    c.step-item.result (rw (sym c.as_slice-step-items.ensures.value) at c.in_ok-list_steps.ensures.lists) c.steps-test.true
    c.step-item.is in
    let counted : length c.steps.lists.settled.items ≡ (length c.args.lists.now.settled.items - 1) + 1 =
    omega (arith, settled-within _ _ _ c.requires.now, ap length c.steps.invariant.extends.settled) in
    let parent : c.len-parent.result ≡ length c.steps.lists.settled.items =
    omega (arith, c.len-parent.ensures, c.args.lists.now.settled.ok.0, ap length c.steps.invariant.extends.settled) in
    rw parent
    (follows-step (g.S.Space.rules c.args.space.now) (g.met.S.Space.keeps_laws c.args.space.now) (books c.steps.lists)
    c.steps.invariant.kept (length c.args.lists.now.settled.items - 1) c.args.label.now
    (settled-extended (g.S.Space.rules c.args.space.now) (books c.args.lists.now) (books c.steps.lists)
    c.steps.invariant.extends _ _ c.requires.now)
    counted one.choice (one.state, one.cost) step.0 (sym step.1))

pub offer-requires-clause-above : goal.offer-requires-clause-above
offer-requires-clause-above g c =
    let one = c.step-item.result in
    let step =
    step-at (g.S.Space.rules c.args.space.now) _ c.args.label.now.state c.args.label.now.cost c.as_slice-step-items.result.now
    c.steps.step-index
    c.step-item.result (rw (sym c.as_slice-step-items.ensures.value) at c.in_ok-list_steps.ensures.lists) c.steps-test.true
    c.step-item.is in
    let counted : length c.steps.lists.settled.items ≡ (length c.args.lists.now.settled.items - 1) + 1 =
    omega (arith, settled-within _ _ _ c.requires.now, ap length c.steps.invariant.extends.settled) in
    above-step (g.S.Space.rules c.args.space.now) (g.met.S.Space.keeps_laws c.args.space.now) (books c.steps.lists)
    c.steps.invariant.kept (length c.args.lists.now.settled.items - 1) c.args.label.now
    (settled-extended (g.S.Space.rules c.args.space.now) (books c.args.lists.now) (books c.steps.lists)
    c.steps.invariant.extends _ _ c.requires.now)
    counted one.choice (one.state, one.cost) step.0 (sym step.1)

pub returns-in_err-offer-clause-leaves : goal.returns-in_err-offer-clause-leaves
returns-in_err-offer-clause-leaves g c =
    leaves-extended _ (books c.args.lists.now) (books c.steps.lists) (books c.offer.new.lists) c.steps.invariant.extends
    c.in_err-offer.ensures.leaves

pub steps-preserved : goal.steps-preserved
steps-preserved g c =
    let offers = c.in_ok-offer.ensures.offers in
    record {
      kept = offers.kept;
      extends = extends-trans _ _ _ c.steps.invariant.extends offers.extends;
      offered =
          offered-more (g.S.Space.rules c.args.space.now) (books c.steps.lists) (books c.offer.new.lists) offers.extends
          c.as_slice-step-items.result.now c.args.label.now.cost c.steps.step-index c.step-item.result
          c.steps.invariant.offered c.steps-test.true c.step-item.is offers.accounted;
      bounds = c.in_ok-offer.ensures.bounds;
      work = omega (arith, offers.work, c.steps.invariant.work);
    }

pub returns-clause-advances : goal.returns-clause-advances
returns-clause-advances g c =
    let rules = g.S.Space.rules c.args.space.now in
    record {
      kept = c.steps.invariant.kept;
      closed =
          closed-advanced _ (books c.args.lists.now) (books c.steps.lists) c.steps.invariant.extends
          (length c.args.lists.now.settled.items - 1) c.args.label.now c.requires.kept c.requires.now
          (omega (arith, settled-within _ _ _ c.requires.now)) c.requires.starts c.requires.steps
          (all-offered rules _ (books c.steps.lists) c.args.label.now c.as_slice-step-items.result.now
          (rw (sym c.as_slice-step-items.ensures.value) at c.in_ok-list_steps.ensures.lists)
          (λ state cost k.
          accounted-extended rules (books c.args.lists.now) (books c.steps.lists) c.steps.invariant.extends state cost
          (known-accounted rules (books c.args.lists.now) c.requires.kept _ refl state cost k))
          (λ place one within is. c.steps.invariant.offered place one (omega (arith, within, c.steps-test.false)) is));
      extends = c.steps.invariant.extends;
      work = c.steps.invariant.work;
    }

pub returns-clause-leaves : goal.returns-clause-leaves
returns-clause-leaves g c =
    record {
      stands = c.steps.invariant.kept.stands;
      keeps =
          settled-extended (g.S.Space.rules c.args.space.now) (books c.args.lists.now) (books c.steps.lists)
          c.steps.invariant.extends;
    }

pub list_steps-requires-clause-valid : goal.list_steps-requires-clause-valid
list_steps-requires-clause-valid g c =
    settled-valid (g.S.Space.rules c.args.space.now) (books c.args.lists.now) c.requires.kept _ c.args.label.now c.requires.now

pub list_steps-requires-clause-small : goal.list_steps-requires-clause-small
list_steps-requires-clause-small g c =
    settled-small (g.S.Space.rules c.args.space.now) (books c.args.lists.now) c.requires.kept _ c.args.label.now c.requires.now

pub returns-in_err-list_steps-clause-leaves : goal.returns-in_err-list_steps-clause-leaves
returns-in_err-list_steps-clause-leaves g c = leaves-same (g.S.Space.rules c.args.space.now) (books c.args.lists.now) c.requires.kept

pub steps-init : goal.steps-init
steps-init g c =
    record {
      kept = c.requires.kept;
      extends = extends-refl (books c.args.lists.now);
      offered = none-offered (g.S.Space.rules c.args.space.now) (books c.args.lists.now) c.args.label.now c.as_slice-step-items.result.now;
      bounds = c.requires.bounds;
      work = work-same (books c.args.lists.now);
    }

pub offer-requires-clause-kept : goal.offer-requires-clause-kept
offer-requires-clause-kept g c = c.steps.invariant.kept

pub returns-in_err-offer-clause-settled : goal.returns-in_err-offer-clause-settled
returns-in_err-offer-clause-settled g c = c.in_err-offer.ensures.settled ∙ c.steps.invariant.extends.settled

pub returns-clause-settled : goal.returns-clause-settled
returns-clause-settled g c = c.steps.invariant.extends.settled
