use Rattle.std.proofs.Common.{◌≡◌, pos, ◌-ℤ◌, SFits, w64, sym, subst, rules, arith}
use Rattle.std.specs.Int.{int_max}
use Rattle.std.proofs.lemmas.Int.{ints, to_z-of_z}
use Rattle.elev_buffer.specs.Step.{settled_of, left_of, paid_of, weight_of}
use Rattle.elev_buffer.proofs.StepLemmas.{left-paid}
use Rattle.elev_buffer.proofs.WordLemmas.{left-fits}
use Rattle.elev_buffer.proofs.steps.settled.Goals as goal

pub returns : goal.returns
unfolding settled_of
returns c =
    let l = c.args.limits.now in
    let paid : SFits w64 c.paid_from-paid.result = search rules in
    let top : SFits w64 c.max.result = search rules in
    let weight : SFits w64 c.weight_from.result = search rules in
    let p : c.paid_from-paid.result ≡ paid_of l c.args.r c.args.full =
    simp (to_z-of_z, c.ranges.r, c.ranges.full) at c.paid_from-paid.ensures.exact in
    let w : c.weight_from.result ≡ weight_of l c.args.r c.args.full =
    simp (to_z-of_z, c.ranges.r, c.ranges.full) at c.weight_from.ensures.exact in
    let m : c.max.result ≡ int_max c.args.full (pos 0) = simp (to_z-of_z, c.ranges.full) at c.max.ensures.value in
    let e : c.max.result -ℤ c.paid_from-paid.result ≡ left_of l c.args.r c.args.full =
    omega (arith, ints, left-paid l c.args.r c.args.full c.requires.limits) in
    let left : SFits w64 (c.max.result -ℤ c.paid_from-paid.result) =
    subst (SFits w64) (sym e) (left-fits l c.args.r c.args.full c.requires.limits) in
    simp (to_z-of_z, paid, top, weight, left) (record { exact = cc })
