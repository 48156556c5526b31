use Rattle.fixed_num.proofs.PrintLemmas.{WritesDecimals-step}
use Rattle.fixed_num.proofs.text.SixDecimals.prepend_fraction.Goals as goal

pub loop-preserved : goal.loop-preserved
loop-preserved c = let e = c.prepend.ensures.value in rw e (WritesDecimals-step _ _ _ _ _ c.loop.invariant)
