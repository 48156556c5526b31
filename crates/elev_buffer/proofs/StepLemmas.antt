-- What follows from the definition of a step, for limits in order and a reduction that is not below 0.
use Rattle.std.proofs.Common.{◌≡◌, ◌*◌, ◌/◌, ◌≤◌, ◌<◌, ℤ, pos, negsuc, ◌+ℤ◌, ◌-ℤ◌, ◌*ℤ◌, ◌≤ℤ◌, ◌<ℤ◌, refl, unsigned_abs, FitsSigned, w64, arith}
use Rattle.std.specs.Int.{int_max, int_min, int_div_euclid}
use Rattle.std.proofs.lemmas.Nat.{div_below, le-div}
use Rattle.std.proofs.Math.Nat.{div-mul-le_self}
use Rattle.std.proofs.lemmas.Int.{ints, clamps, by_lt_z, fits_signed_from_abs}
use Rattle.elev_buffer.specs.Step.{IsLimits, IsNoMore, paid_of, left_of, weight_of, settled_of, step_of}
use Rattle.elev_buffer.specs.declared.steps.Limits.{Limits}
use Rattle.elev_buffer.specs.declared.steps.Stepped.{Stepped}

-- below the penalty nothing is paid
pub paid_of-below : (l : Limits) (r full : ℤ) → full ≤ℤ l.penalty → paid_of l r full ≡ pos 0
unfolding paid_of
paid_of-below l r full h = grind (arith, ints)

-- above it what the two limits ask
pub paid_of-above : (l : Limits) (r full : ℤ) → l.penalty <ℤ full →
    paid_of l r full ≡ int_max (int_min r (full -ℤ l.penalty)) (full -ℤ l.most)
unfolding paid_of
paid_of-above l r full h = grind (arith, ints)

-- below the penalty all is left
pub left_of-below : (l : Limits) (r full : ℤ) → full ≤ℤ l.penalty → left_of l r full ≡ int_max full (pos 0)
unfolding left_of
left_of-below l r full h = grind (arith, ints)

-- above it what is not paid
pub left_of-above : (l : Limits) (r full : ℤ) → l.penalty <ℤ full → left_of l r full ≡ full -ℤ paid_of l r full
unfolding left_of
left_of-above l r full h = grind (arith, ints)

-- below the penalty nothing weighs
pub weight_of-below : (l : Limits) (r full : ℤ) → full ≤ℤ l.penalty → weight_of l r full ≡ pos 0
unfolding weight_of
weight_of-below l r full h = grind (arith, ints)

-- beyond the reduction all weighs
pub weight_of-whole : (l : Limits) (r full : ℤ) → l.penalty <ℤ full → r ≤ℤ (full -ℤ l.penalty) → weight_of l r full ≡ pos 1000000
unfolding weight_of
weight_of-whole l r full h e = grind (arith, ints)

-- between them a part
pub weight_of-part : (l : Limits) (r full : ℤ) → l.penalty <ℤ full → (full -ℤ l.penalty) <ℤ r →
    weight_of l r full ≡ int_div_euclid (pos 1000000 *ℤ (full -ℤ l.penalty)) r
unfolding weight_of
weight_of-part l r full h e = grind (arith, ints)

-- what is left and what is paid make up the full buffer, or nothing
pub left-paid : (l : Limits) (r full : ℤ) → IsLimits l → left_of l r full +ℤ paid_of l r full ≡ int_max full (pos 0)
left-paid l r full is =
    by_lt_z l.penalty full
    (λ h. omega (arith, ints, clamps, left_of-above l r full h, is.penalty))
    (λ h. omega (arith, ints, clamps, left_of-below l r full h, paid_of-below l r full h))

-- nothing is paid that would have to be given back
pub paid-positive : (l : Limits) (r full : ℤ) → IsLimits l → pos 0 ≤ℤ r → pos 0 ≤ℤ paid_of l r full
paid-positive l r full is positive =
    by_lt_z l.penalty full
    (λ h. omega (arith, ints, clamps, paid_of-above l r full h))
    (λ h. omega (arith, ints, paid_of-below l r full h))

-- what is left is a buffer
pub left-positive : (l : Limits) (r full : ℤ) → IsLimits l → pos 0 ≤ℤ left_of l r full
left-positive l r full is =
    by_lt_z l.penalty full
    (λ h. omega (arith, ints, clamps, left_of-above l r full h, paid_of-above l r full h, is.penalty, is.order))
    (λ h. omega (arith, ints, clamps, left_of-below l r full h))

-- and no more than the most
pub left-within : (l : Limits) (r full : ℤ) → IsLimits l → left_of l r full ≤ℤ l.most
left-within l r full is =
    by_lt_z l.penalty full
    (λ h. omega (arith, ints, clamps, left_of-above l r full h, paid_of-above l r full h, is.penalty, is.order))
    (λ h. omega (arith, ints, clamps, left_of-below l r full h, is.penalty, is.order))

-- from a fuller buffer no less is paid
pub paid-grows : (l : Limits) (r full more : ℤ) → IsLimits l → pos 0 ≤ℤ r → full ≤ℤ more → paid_of l r full ≤ℤ paid_of l r more
paid-grows l r full more is positive grows =
    by_lt_z l.penalty full
    (λ h. by_lt_z l.penalty more
    (λ k. omega (arith, ints, clamps, paid_of-above l r full h, paid_of-above l r more k))
    (λ k. absurd (omega (arith, ints))))
    (λ h. omega (arith, ints, paid_of-below l r full h, paid-positive l r more is positive))

-- and no less is left
pub left-grows : (l : Limits) (r full more : ℤ) → IsLimits l → pos 0 ≤ℤ r → full ≤ℤ more → left_of l r full ≤ℤ left_of l r more
left-grows l r full more is positive grows =
    by_lt_z l.penalty full
    (λ h. by_lt_z l.penalty more
    (λ k. omega (
      arith,
      ints,
      clamps,
      left_of-above l r full h,
      left_of-above l r more k,
      paid_of-above l r full h,
      paid_of-above l r more k,
    ))
    (λ k. absurd (omega (arith, ints))))
    (λ h. by_lt_z l.penalty more
    (λ k. omega (arith, ints, clamps, left_of-below l r full h, left_of-above l r more k, paid_of-above l r more k, is.penalty, is.order))
    (λ k. omega (arith, ints, clamps, left_of-below l r full h, left_of-below l r more k)))

-- a part of the whole is at most the whole, in millionths
share_le : (part whole : ℤ) → pos 0 ≤ℤ part → part <ℤ whole → int_div_euclid (pos 1000000 *ℤ part) whole ≤ℤ pos 1000000
share_le (pos m) (pos n) low h = omega (arith, ints, div_below (1000000 * m) n 1000000 (omega (arith, ints)) (omega (arith, ints)))
share_le (pos m) (negsuc n) low h = absurd (omega (arith, ints))
share_le (negsuc m) whole low h = absurd (omega (arith, ints))

-- and no less than nothing
share_positive : (part whole : ℤ) → pos 0 ≤ℤ part → part <ℤ whole → pos 0 ≤ℤ int_div_euclid (pos 1000000 *ℤ part) whole
share_positive (pos m) (pos n) low h = omega (arith, ints)
share_positive (pos m) (negsuc n) low h = absurd (omega (arith, ints))
share_positive (negsuc m) whole low h = absurd (omega (arith, ints))

-- a larger part is no smaller share
share_grows : (part more whole : ℤ) → pos 0 ≤ℤ part → part ≤ℤ more → more <ℤ whole →
    int_div_euclid (pos 1000000 *ℤ part) whole ≤ℤ int_div_euclid (pos 1000000 *ℤ more) whole
share_grows (pos m) (pos k) (pos n) low grows h =
    let some : 0 < n = omega (arith, ints) in
    omega (arith, ints, le-div (1000000 * m / n) (1000000 * k) n some (omega (arith, ints, div-mul-le_self (1000000 * m) n)))
share_grows (pos m) (pos k) (negsuc n) low grows h = absurd (omega (arith, ints))
share_grows (pos m) (negsuc k) whole low grows h = absurd (omega (arith, ints))
share_grows (negsuc m) more whole low grows h = absurd (omega (arith, ints))

-- no weight is below 0
pub weight-positive : (l : Limits) (r full : ℤ) → pos 0 ≤ℤ weight_of l r full
weight-positive l r full =
    by_lt_z l.penalty full
    (λ h. by_lt_z (full -ℤ l.penalty) r
    (λ k. rw (weight_of-part l r full h k) (share_positive (full -ℤ l.penalty) r (omega (arith, ints)) k))
    (λ k. omega (arith, ints, weight_of-whole l r full h k)))
    (λ h. omega (arith, ints, weight_of-below l r full h))

-- nor above a million
pub weight-within : (l : Limits) (r full : ℤ) → weight_of l r full ≤ℤ pos 1000000
weight-within l r full =
    by_lt_z l.penalty full
    (λ h. by_lt_z (full -ℤ l.penalty) r
    (λ k. rw (weight_of-part l r full h k) (share_le (full -ℤ l.penalty) r (omega (arith, ints)) k))
    (λ k. omega (arith, ints, weight_of-whole l r full h k)))
    (λ h. omega (arith, ints, weight_of-below l r full h))

-- a fuller buffer weighs no less
pub weight-grows : (l : Limits) (r full more : ℤ) → full ≤ℤ more → weight_of l r full ≤ℤ weight_of l r more
weight-grows l r full more grows =
    by_lt_z l.penalty full
    (λ h. let above : l.penalty <ℤ more = omega (arith, ints) in
    by_lt_z (more -ℤ l.penalty) r
    (λ k. let part : (full -ℤ l.penalty) <ℤ r = omega (arith, ints) in
    rw (weight_of-part l r full h part, weight_of-part l r more above k)
    (share_grows (full -ℤ l.penalty) (more -ℤ l.penalty) r (omega (arith, ints)) (omega (arith, ints)) k))
    (λ k. omega (arith, ints, weight_of-whole l r more above k, weight-within l r full)))
    (λ h. omega (arith, ints, weight_of-below l r full h, weight-positive l r more))

-- from a larger buffer a step pays, leaves and weighs no less
pub step-grows : (l : Limits) (added r buffer more : ℤ) → IsLimits l → pos 0 ≤ℤ r → buffer ≤ℤ more →
    IsNoMore (step_of l added r buffer) (step_of l added r more)
unfolding step_of settled_of
step-grows l added r buffer more is positive grows =
    let fuller : (buffer +ℤ added) ≤ℤ (more +ℤ added) = omega (arith, ints) in
    record {
      e = left-grows l r _ _ is positive fuller;
      paid = paid-grows l r _ _ is positive fuller;
      weight = weight-grows l r _ _ fuller;
    }

-- what a step leaves and pays is the full buffer, or nothing
pub step-sum : (l : Limits) (added r buffer : ℤ) → IsLimits l →
    (step_of l added r buffer).e +ℤ (step_of l added r buffer).paid ≡ int_max (buffer +ℤ added) (pos 0)
unfolding step_of settled_of
step-sum l added r buffer is = left-paid l r (buffer +ℤ added) is

-- from a larger buffer that is more by no more than the buffer is
pub step-slowly : (l : Limits) (added r buffer more : ℤ) → IsLimits l → buffer ≤ℤ more →
    ((step_of l added r more).e +ℤ (step_of l added r more).paid -ℤ ((step_of l added r buffer).e +ℤ (step_of l added r buffer).paid)) ≤ℤ
    (more -ℤ buffer)
step-slowly l added r buffer more is grows = omega (arith, ints, clamps, step-sum l added r buffer is, step-sum l added r more is)

-- a step leaves a buffer
pub step-positive : (l : Limits) (added r buffer : ℤ) → IsLimits l → pos 0 ≤ℤ (step_of l added r buffer).e
unfolding step_of settled_of
step-positive l added r buffer is = left-positive l r (buffer +ℤ added) is

-- that is within the most
pub step-within : (l : Limits) (added r buffer : ℤ) → IsLimits l → (step_of l added r buffer).e ≤ℤ l.most
unfolding step_of settled_of
step-within l added r buffer is = left-within l r (buffer +ℤ added) is

-- what it pays is never taken
pub step-paid : (l : Limits) (added r buffer : ℤ) → IsLimits l → pos 0 ≤ℤ r → pos 0 ≤ℤ (step_of l added r buffer).paid
unfolding step_of settled_of
step-paid l added r buffer is positive = paid-positive l r (buffer +ℤ added) is positive

-- its weight is at least nothing
pub step-light : (l : Limits) (added r buffer : ℤ) → pos 0 ≤ℤ (step_of l added r buffer).weight
unfolding step_of settled_of
step-light l added r buffer = weight-positive l r (buffer +ℤ added)

-- and at most a million
pub step-heavy : (l : Limits) (added r buffer : ℤ) → (step_of l added r buffer).weight ≤ℤ pos 1000000
unfolding step_of settled_of
step-heavy l added r buffer = weight-within l r (buffer +ℤ added)

-- all that is known of what a step gives
abbrev pub Steps : Limits → ℤ → ℤ → ℤ → Stepped → Type 0
Steps l added r buffer s = record {
  exact : s ≡ step_of l added r buffer;
  positive : pos 0 ≤ℤ s.e;
  within : s.e ≤ℤ l.most;
  paid : pos 0 ≤ℤ s.paid;
  light : pos 0 ≤ℤ s.weight;
  heavy : s.weight ≤ℤ pos 1000000;
  sum : s.e +ℤ s.paid ≡ int_max (buffer +ℤ added) (pos 0);
  grows : (more : ℤ) → buffer ≤ℤ more → IsNoMore s (step_of l added r more);
  slowly : (more : ℤ) → buffer ≤ℤ more →
      ((step_of l added r more).e +ℤ (step_of l added r more).paid -ℤ (s.e +ℤ s.paid)) ≤ℤ (more -ℤ buffer);
}

-- holds of the step of the definition
pub step_of-Steps : (l : Limits) (added r buffer : ℤ) → IsLimits l → pos 0 ≤ℤ r → Steps l added r buffer (step_of l added r buffer)
step_of-Steps l added r buffer is positive = record {
  exact = refl;
  positive = step-positive l added r buffer is;
  within = step-within l added r buffer is;
  paid = step-paid l added r buffer is positive;
  light = step-light l added r buffer;
  heavy = step-heavy l added r buffer;
  sum = step-sum l added r buffer is;
  grows = λ more h. step-grows l added r buffer more is positive h;
  slowly = λ more h. step-slowly l added r buffer more is h;
}

-- what a full buffer is compared with stays within 64 bits
pub record FullFits (l : Limits) (full : ℤ) : Type 0 where
  pub penalty : FitsSigned w64 l.penalty
  pub most : FitsSigned w64 l.most
  pub over : FitsSigned w64 (full -ℤ l.penalty)
  pub far : FitsSigned w64 (full -ℤ l.most)

-- it does for every full buffer that a step makes
pub full_fits : (l : Limits) (full : ℤ) → IsLimits l → unsigned_abs full ≤ 2001000000000000000 → FullFits l full
full_fits l full is small =
    let p = is.penalty in
    let o = is.order in
    let m = is.most in
    record {
      penalty = fits_signed_from_abs w64 _ (omega (arith, ints));
      most = fits_signed_from_abs w64 _ (omega (arith, ints));
      over = fits_signed_from_abs w64 _ (omega (arith, ints));
      far = fits_signed_from_abs w64 _ (omega (arith, ints));
    }

-- no more is paid than the full buffer holds
pub paid-within : (l : Limits) (r full : ℤ) → IsLimits l → paid_of l r full ≤ℤ int_max full (pos 0)
paid-within l r full is = omega (arith, ints, clamps, left-paid l r full is, left-positive l r full is)
