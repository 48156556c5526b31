-- What follows for a link of the bounds on its facts and on prices.
use Rattle.std.proofs.Common.{◌≡◌, ℕ, ◌*◌, ◌≤◌, ℤ, pos, negsuc, ◌+ℤ◌, ◌-ℤ◌, ◌*ℤ◌, ◌≤ℤ◌, unsigned_abs, SFits, w64, to_z, of_z, refl, ap, ◌∙◌, arith}
use Rattle.std.specs.Int.{w128, int_div_euclid}
use Rattle.std.proofs.lemmas.Int.{ints, to_z-of_z, fits_signed_from_abs, unsigned_abs-mul}
use Rattle.std.proofs.Math.IntN.{*ℤ_comm, *ℤ-zero}
use Rattle.std.proofs.lemmas.Nat.{mul-le}
use Rattle.std.proofs.lemmas.Int.{clamps}
use Rattle.elev_buffer.specs.Covers.{down_step, up_step}
use Rattle.elev_buffer.specs.Step.{step_of}
use Rattle.elev_buffer.specs.declared.labels.Pair.{Pair}
use Rattle.elev_buffer.specs.declared.steps.Stepped.{Stepped}
use Rattle.elev_buffer.proofs.CallerLemmas.{step-positive, step-within, step-paid, step-light, step-heavy, step-sum}
use Rattle.cost_model.specs.Facts.{AreFacts}
use Rattle.cost_model.specs.declared.facts.LinkFacts.{LinkFacts}
use Rattle.cost_model.specs.declared.parts.Parts.{Parts}
use Rattle.cost_model.specs.Prices.{Prices, IsSlope, IsPrices, IsRate}
use Rattle.cost_model.specs.Parts.{per_metre, turn_price, climb_of, IsHeld, IsWeight, distance_of, parts_with}
use Rattle.cost_model.proofs.NumberLemmas.{per_metre-low, per_metre-high}
use Rattle.cost_model.proofs.FactorLemmas.{div-within}

-- the bounds of what a slope comes to
pub record SlopeFits (n : ℤ) : Type 0 where
  pub low : pos 0 ≤ℤ n
  pub high : n ≤ℤ pos 1000000000000000000
  pub narrow : SFits w64 n
  pub wide : SFits w128 n

-- a slope along a link keeps them
pub slope_fits : (length : ℕ) (rate : ℤ) → length ≤ 100000000 → IsSlope rate → SlopeFits (per_metre length rate)
slope_fits length rate short is =
    let low = per_metre-low length rate is.low in
    let high = per_metre-high length rate (pos 10000000000000) short is.low is.high in
    let most : per_metre length rate ≤ℤ pos 1000000000000000000 = high in
    record {
      low = low;
      high = most;
      narrow = fits_signed_from_abs w64 _ (omega (arith, ints));
      wide = fits_signed_from_abs w128 _ (omega (arith, ints));
    }

-- the numbers on the way to the price of a turn
pub record PriceFits (turncost cosine : ℤ) : Type 0 where
  pub cost : SFits w128 turncost
  pub rest : SFits w64 (pos 1000000 -ℤ cosine) × SFits w128 (pos 1000000 -ℤ cosine)
  pub product : SFits w128 (turncost *ℤ (pos 1000000 -ℤ cosine))
  pub quotient : SFits w128 (int_div_euclid (turncost *ℤ (pos 1000000 -ℤ cosine)) (pos 1000000))

-- fit
pub price_fits : (turncost cosine : ℤ) → unsigned_abs turncost ≤ 1000000000000000 → unsigned_abs cosine ≤ 1000000 →
    PriceFits turncost cosine
price_fits turncost cosine t k =
    let rest : unsigned_abs (pos 1000000 -ℤ cosine) ≤ 2000000 = omega (arith, ints) in
    let p : unsigned_abs (turncost *ℤ (pos 1000000 -ℤ cosine)) ≤ 1000000000000000 * 2000000 =
    omega (
      arith,
      unsigned_abs-mul turncost (pos 1000000 -ℤ cosine),
      mul-le (unsigned_abs turncost) (unsigned_abs (pos 1000000 -ℤ cosine)) 1000000000000000 2000000 t rest,
    ) in
    let q = div-within (turncost *ℤ (pos 1000000 -ℤ cosine)) (omega arith) in
    record {
      cost = fits_signed_from_abs w128 _ (omega arith);
      rest = (fits_signed_from_abs w64 _ (omega arith), fits_signed_from_abs w128 _ (omega arith));
      product = fits_signed_from_abs w128 _ (omega arith);
      quotient = fits_signed_from_abs w128 _ (omega arith);
    }

-- a turn that costs nothing
pub turn_price-free : (turncost cosine : ℤ) → turncost ≡ pos 0 → pos 0 ≡ turn_price turncost cosine
unfolding turn_price
turn_price-free turncost cosine e = rw (e, *ℤ_comm (pos 0) (pos 1000000 -ℤ cosine), *ℤ-zero (pos 1000000 -ℤ cosine)) refl

-- a slope fits 64 bits
pub slope-narrow : (n : ℤ) → IsSlope n → SFits w64 n
slope-narrow n is = fits_signed_from_abs w64 n (omega (arith, ints, is.low, is.high))

-- what is added to a buffer fits 64 bits
pub added_fits : (rise slope : ℤ) → unsigned_abs rise ≤ 100000000000 → pos 0 ≤ℤ slope → slope ≤ℤ pos 1000000000000000000 →
    SFits w64 (rise -ℤ slope)
added_fits rise slope r low high = fits_signed_from_abs w64 _ (omega (arith, ints))

-- a rise fits, and so does a fall
pub rise-fits : (rise : ℤ) → unsigned_abs rise ≤ 100000000000 →
    SFits w64 rise × SFits w64 (pos 0 -ℤ rise) × (unsigned_abs (pos 0 -ℤ rise) ≤ 100000000000)
rise-fits rise r = (fits_signed_from_abs w64 _ (omega arith), fits_signed_from_abs w64 _ (omega (arith, ints)), omega (arith, ints))

-- the bounds of what a step gives
pub record StepFits (prices : Prices) (s : Stepped) : Type 0 where
  pub weight : IsWeight s.weight
  pub positive : pos 0 ≤ℤ s.paid
  pub within : s.paid ≤ℤ pos 1001000000000000
  pub left : pos 0 ≤ℤ s.e
  pub most : s.e ≤ℤ prices.limits.most

-- a step over a link keeps them
step_fits : (p : Prices) (added r e : ℤ) → IsPrices p → pos 0 ≤ℤ r → added ≤ℤ pos 100000000000 → e ≤ℤ p.limits.most →
    StepFits p (step_of p.limits added r e)
step_fits p added r e is positive small held =
    let sum = step-sum p.limits added r e is.limits in
    let left = step-positive p.limits added r e is.limits in
    let most = is.limits.most in
    record {
      weight = record { low = step-light p.limits added r e; high = step-heavy p.limits added r e };
      positive = step-paid p.limits added r e is.limits positive;
      within = omega (arith, ints, clamps);
      left = left;
      most = step-within p.limits added r e is.limits;
    }

-- the numbers of a step, and the price of what it pays
pub record StepNarrow (s : Stepped) (rate : ℤ) : Type 0 where
  pub e : SFits w64 s.e
  pub paid : SFits w64 s.paid
  pub weight : SFits w64 s.weight
  pub size : unsigned_abs s.paid ≤ 1001000000000000
  pub bounded : unsigned_abs rate ≤ 1000000000
  pub narrow : SFits w64 rate
  pub low : pos 0 ≤ℤ (s.paid *ℤ rate)
  pub price : unsigned_abs (s.paid *ℤ rate) ≤ 1001000000000000000000000
  pub wide : SFits w128 (s.paid *ℤ rate)

-- the product of two numbers that are not negative is not negative
pub product-low : (a b : ℤ) → pos 0 ≤ℤ a → pos 0 ≤ℤ b → pos 0 ≤ℤ (a *ℤ b)
product-low (pos m) (pos n) a b = omega (arith, ints)
product-low (pos m) (negsuc n) a b = absurd (omega (arith, ints))
product-low (negsuc m) n a b = absurd (omega (arith, ints))

-- fit
pub step_narrow : (p : Prices) (s : Stepped) (rate : ℤ) → IsPrices p → IsRate rate → StepFits p s → StepNarrow s rate
step_narrow p s rate is r f =
    let wl = f.weight.low in
    let wh = f.weight.high in
    let pl = f.positive in
    let ph = f.within in
    let el = f.left in
    let eh = f.most in
    let most = is.limits.most in
    let rl = r.low in
    let rh = r.high in
    let size : unsigned_abs s.paid ≤ 1001000000000000 = omega (arith, ints) in
    let rates : unsigned_abs rate ≤ 1000000000 = omega (arith, ints) in
    let price : unsigned_abs (s.paid *ℤ rate) ≤ 1001000000000000 * 1000000000 =
    omega (arith, unsigned_abs-mul s.paid rate, mul-le (unsigned_abs s.paid) (unsigned_abs rate) 1001000000000000 1000000000 size rates) in
    record {
      e = fits_signed_from_abs w64 _ (omega (arith, ints));
      paid = fits_signed_from_abs w64 _ (omega arith);
      weight = fits_signed_from_abs w64 _ (omega (arith, ints));
      size = size;
      bounded = rates;
      narrow = fits_signed_from_abs w64 _ (omega arith);
      low = product-low s.paid rate pl rl;
      price = omega arith;
      wide = fits_signed_from_abs w128 _ (omega arith);
    }

-- what both steps pay fits 128 bits
pub prices_fit : (a b : ℤ) → unsigned_abs a ≤ 1001000000000000000000000 → unsigned_abs b ≤ 1001000000000000000000000 → SFits w128 (a +ℤ b)
prices_fit a b h k = fits_signed_from_abs w128 _ (omega (arith, ints))

-- both steps over a link, and their bounds
pub record StepsAre (p : Prices) (facts : LinkFacts) (pair : Pair) (d u : Stepped) : Type 0 where
  pub down : d ≡ down_step (climb_of p facts) pair
  pub up : u ≡ up_step (climb_of p facts) pair
  pub down_fits : StepNarrow d p.down_rate
  pub up_fits : StepNarrow u p.up_rate
  pub down_weight : IsWeight d.weight
  pub up_weight : IsWeight u.weight

module _ (p : Prices) (facts : LinkFacts) (pair : Pair) (is : IsPrices p) (f : AreFacts facts) (held : IsHeld p pair) where
  -- a slope along the link is no less than nothing
  slope-low : (rate : ℤ) → IsSlope rate → pos 0 ≤ℤ per_metre facts.arrow.len rate
  slope-low rate s = (slope_fits facts.arrow.len rate f.arrow.short s).low

  -- the step of the buffer of descending keeps its bounds
  pub descent_fits : StepFits p (down_step (climb_of p facts) pair)
  unfolding climb_of
  descent_fits =
      step_fits p _ _ pair.down is (slope-low p.reduction is.reduction)
      (omega (arith, ints, slope-low p.down_cutoff is.down_cutoff, f.rise)) held.down_high

  -- so does that of the buffer of climbing
  pub ascent_fits : StepFits p (up_step (climb_of p facts) pair)
  unfolding climb_of
  ascent_fits =
      step_fits p _ _ pair.up is (slope-low p.reduction is.reduction) (omega (arith, ints, slope-low p.up_cutoff is.up_cutoff, f.rise))
      held.up_high

  -- both steps are those that are computed
  pub steps_are : (d u : Stepped) →
      d ≡ step_of p.limits (climb_of p facts).down_added (climb_of p facts).reduction (to_z w64 (of_z w64 pair.down)) →
      u ≡ step_of p.limits (climb_of p facts).up_added (climb_of p facts).reduction (to_z w64 (of_z w64 pair.up)) →
      StepsAre p facts pair d u
  unfolding climb_of
  steps_are d u de ue =
      let dl = held.down_low in
      let dh = held.down_high in
      let ul = held.up_low in
      let uh = held.up_high in
      let most = is.limits.most in
      let narrow : SFits w64 pair.down = fits_signed_from_abs w64 _ (omega (arith, ints)) in
      let also : SFits w64 pair.up = fits_signed_from_abs w64 _ (omega (arith, ints)) in
      let down : d ≡ down_step (climb_of p facts) pair = de
      ∙ ap (λ e. step_of p.limits (climb_of p facts).down_added (climb_of p facts).reduction e) (to_z-of_z w64 pair.down narrow) in
      let up : u ≡ up_step (climb_of p facts) pair = ue
      ∙ ap (λ e. step_of p.limits (climb_of p facts).up_added (climb_of p facts).reduction e) (to_z-of_z w64 pair.up also) in
      let df : StepFits p d = rw down (descent_fits) in
      let uf : StepFits p u = rw up (ascent_fits) in
      record {
        down = down;
        up = up;
        down_fits = step_narrow p d p.down_rate is is.down_rate df;
        up_fits = step_narrow p u p.up_rate is is.up_rate uf;
        down_weight = df.weight;
        up_weight = uf.weight;
      }

-- the parts that are computed are those of the definition
pub parts-are : (p : Prices) (facts : LinkFacts) (pair : Pair) (d u : Stepped) (distance turn initial elevation : ℤ) →
    d ≡ down_step (climb_of p facts) pair → u ≡ up_step (climb_of p facts) pair → distance ≡ distance_of facts d.weight u.weight →
    elevation ≡ d.paid *ℤ p.down_rate +ℤ u.paid *ℤ p.up_rate →
    ◌≡◌ {A = Parts} (record { distance = distance; turn = turn; initial = initial; node = facts.charge; elevation = elevation })
    (parts_with p turn initial facts pair)
unfolding parts_with
parts-are p facts pair d u distance turn initial elevation de ue is paid = rw (is, paid, de, ue) refl

-- the price that is computed is that of the definition
pub price-is : (s : Stepped) (rate got x : ℤ) → StepNarrow s rate → got ≡ rate →
    x ≡ to_z w64 (of_z w64 s.paid) *ℤ to_z w64 (of_z w64 got) → x ≡ s.paid *ℤ rate
price-is s rate got x f e h = h ∙ rw (e, to_z-of_z w64 s.paid f.paid, to_z-of_z w64 rate f.narrow) refl

-- held buffers fit 64 bits
pub held-narrow : (p : Prices) (n : ℤ) → IsPrices p → pos 0 ≤ℤ n → n ≤ℤ p.limits.most → SFits w64 n
held-narrow p n is low high =
    let most = is.limits.most in
    fits_signed_from_abs w64 _ (omega (arith, ints))
