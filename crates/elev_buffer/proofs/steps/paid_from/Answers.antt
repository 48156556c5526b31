use Rattle.std.proofs.Common.{◌≡◌, ℤ, ◌-ℤ◌, ◌<ℤ◌, w64, FitsSigned, to_z, of_z, unsigned_abs, ◌≤◌, ap, ◌∙◌, rules, sym}
use Rattle.std.specs.Int.{int_max, int_min}
use Rattle.std.proofs.lemmas.Int.{ints, to_z-of_z}
use Rattle.elev_buffer.specs.Step.{paid_of, IsLimits}
use Rattle.elev_buffer.specs.declared.steps.Limits.{Limits}
use Rattle.elev_buffer.proofs.StepLemmas.{paid_of-below, paid_of-above, paid-within, paid-positive, full_fits}
use Rattle.elev_buffer.proofs.steps.paid_from.Goals as goal

pub returns-then-full-limits-clause-exact : goal.returns-then-full-limits-clause-exact
returns-then-full-limits-clause-exact c = sym (paid_of-below _ _ _ (search (rules, ints)))

-- what was computed step by step in 64 bits: the lesser of the reduction and what is above the penalty, then the greater
record Computed (l : Limits) (r full least paid : ℤ) : Type 0 where
  r_fits : FitsSigned w64 r
  full_fits : FitsSigned w64 full
  least_fits : FitsSigned w64 least
  paid_fits : FitsSigned w64 paid
  least_is : least ≡ int_min (to_z w64 (of_z w64 r)) (to_z w64 (of_z w64 (to_z w64 (of_z w64 full) -ℤ to_z w64 (of_z w64 l.penalty))))
  paid_is : paid ≡ int_max (to_z w64 (of_z w64 least)) (to_z w64 (of_z w64 (to_z w64 (of_z w64 full) -ℤ to_z w64 (of_z w64 l.most))))

-- it is what is paid
computed : (l : Limits) (r full least paid : ℤ) → IsLimits l → unsigned_abs full ≤ 2001000000000000000 → l.penalty <ℤ full →
    Computed l r full least paid → to_z w64 (of_z w64 paid) ≡ paid_of l r full
computed l r full least paid is small above h =
    let fits = full_fits l full is small in
    let a : least ≡ int_min r (full -ℤ l.penalty) = simp (to_z-of_z, h.r_fits, h.full_fits, fits.penalty, fits.over) at h.least_is in
    let b : paid ≡ int_max least (full -ℤ l.most) = simp (to_z-of_z, h.full_fits, h.least_fits, fits.most, fits.far) at h.paid_is in
    simp (to_z-of_z, h.paid_fits) (b ∙ ap (λ x. int_max x (full -ℤ l.most)) a ∙ sym (paid_of-above l r full above))

pub returns-else-full-limits : goal.returns-else-full-limits
returns-else-full-limits c =
    let l = c.args.limits.now in
    let above : l.penalty <ℤ c.args.full = search (rules, ints) in
    let is = computed l c.args.r c.args.full c.min.result c.max.result c.requires.limits c.requires.full above (record {
      r_fits = c.ranges.r;
      full_fits = c.ranges.full;
      least_fits = search rules;
      paid_fits = search rules;
      least_is = c.min.ensures.value;
      paid_is = c.max.ensures.value;
    }) in
    record {
      exact = is;
      within = rw is (paid-within l c.args.r c.args.full c.requires.limits);
      positive = rw is (paid-positive l c.args.r c.args.full c.requires.limits c.requires.positive);
    }
