use Rattle.std.proofs.Common.{◌∙◌, arith, below_more, sym}
use Rattle.hall.proofs.SweepLemmas.{swept_whole}
use Rattle.hall.specs.Swept.{IsSweptAt}
use Rattle.hall.proofs.sweeping.sweep.Goals as goal

pub makings-preserved : goal.makings-preserved
makings-preserved c =
    let so_far = c.makings.invariant in
    let place = c.sweep_place.ensures in
    record {
      held = place.held;
      state = place.state ∙ so_far.state;
      same = place.same ∙ so_far.same;
      long = place.long ∙ so_far.long;
      swept = λ i below. below_more (IsSweptAt c.sweep_place.new.room) c.makings.k
          (λ i below. place.others i (λ here. omega (arith, below, here)) (so_far.swept i below)) place.swept i below;
    }

pub returns-clause-swept : goal.returns-clause-swept
returns-clause-swept c =
    swept_whole c.makings.room c.makings-makings.result (sym c.makings.invariant.long)
    (λ k below. c.makings.invariant.swept k (omega (arith, below, c.makings-test.false)))
