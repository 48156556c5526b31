use Rattle.std.proofs.Common.{◌≡◌, ◌+ℤ◌, SFits, w64, sym, subst, arith}
use Rattle.std.proofs.lemmas.Int.{ints, to_z-of_z, fits_signed_from_abs}
use Rattle.elev_buffer.specs.Step.{step_of}
use Rattle.elev_buffer.specs.declared.steps.Stepped.{Stepped}
use Rattle.elev_buffer.proofs.StepLemmas.{Steps, step_of-Steps}
use Rattle.elev_buffer.proofs.steps.step.Goals as goal

pub returns : goal.returns
unfolding step_of
returns c =
    let l = c.args.limits.now in
    let full : SFits w64 (c.args.e +ℤ c.args.a) =
    fits_signed_from_abs w64 _ (omega (arith, ints, c.requires.limits.most, c.requires.high, c.requires.low, c.requires.added)) in
    let is : c.settled.result ≡ step_of l c.args.a c.args.r c.args.e =
    simp (to_z-of_z, c.ranges.e, c.ranges.a, c.ranges.r, full) at c.settled.ensures.exact in
    let P : Stepped → Type 0 = λ s. Steps l c.args.a c.args.r c.args.e s in
    subst P (sym is) (step_of-Steps l c.args.a c.args.r c.args.e c.requires.limits c.requires.positive)
