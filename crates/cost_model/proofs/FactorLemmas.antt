-- What follows from the definition of the factor of the distance.
use Rattle.std.proofs.Common.{◌≡◌, suc, ◌+◌, ◌*◌, ◌/◌, ◌≤◌, ◌<◌, ℤ, pos, negsuc, ◌+ℤ◌, ◌-ℤ◌, ◌*ℤ◌, ◌≤ℤ◌, refl, ap, ◌∙◌, unsigned_abs, SFits, w64, arith}
use Rattle.std.specs.Int.{w128, int_div_euclid, int_min}
use Rattle.std.proofs.Math.IntN.{*ℤ_comm, *ℤ-zero}
use Rattle.std.proofs.lemmas.Int.{ints, clamps, fits_signed_from_abs, unsigned_abs-mul}
use Rattle.std.proofs.lemmas.Nat.{mul-le, div_below, le-div}
use Rattle.std.proofs.Math.Nat.{div-mul-le_self}
use Rattle.cost_model.specs.Facts.{IsCost, AreFacts}
use Rattle.cost_model.specs.Parts.{IsWeight, MovesWithWeights, moved_of, factor_of, least_factor, least_distance, distance_of}
use Rattle.cost_model.specs.declared.facts.LinkFacts.{LinkFacts}
use Rattle.cost_model.proofs.NumberLemmas.{pull_fits, per_metre-grows, cost-fits, cost-wide, pull-wide}
use Rattle.elev_buffer.proofs.CallerLemmas.{mul-grows}

-- a division rounded down does not fall where what is divided grows
pub div-grows : (x y : ℤ) → x ≤ℤ y → int_div_euclid x (pos 1000000) ≤ℤ int_div_euclid y (pos 1000000)
div-grows (pos a) (pos b) h =
    omega (arith, ints, le-div (a / 1000000) b 1000000 (omega arith) (omega (arith, ints, div-mul-le_self a 1000000)))
div-grows (pos a) (negsuc b) h = absurd (omega (arith, ints))
div-grows (negsuc a) (pos b) h = omega (arith, ints)
div-grows (negsuc a) (negsuc b) h =
    omega (arith, ints, le-div (b / 1000000) a 1000000 (omega arith) (omega (arith, ints, div-mul-le_self b 1000000)))

-- a multiple of a million is divided exactly
pub div-exact : (x : ℤ) → pos 0 ≤ℤ x → int_div_euclid (x *ℤ pos 1000000) (pos 1000000) ≡ x
div-exact (pos n) low =
    let some : 0 < 1000000 = omega arith in
    let above : n ≤ n * 1000000 / 1000000 = le-div n (n * 1000000) 1000000 some (omega arith) in
    let below : n * 1000000 / 1000000 < n + 1 = div_below (n * 1000000) 1000000 (n + 1) some (omega arith) in
    let same : n * 1000000 / 1000000 ≡ n = omega arith in
    ap pos same
div-exact (negsuc n) low = absurd (omega (arith, ints))

-- a division by a million makes a size no more than its millionth, rounded up
pub div-within : (x : ℤ) → unsigned_abs x ≤ 3000000000000000000000 → unsigned_abs (int_div_euclid x (pos 1000000)) ≤ 3000000000000000
div-within (pos a) h = omega (arith, ints, div_below a 1000000 3000000000000001 (omega arith) (omega (arith, ints)))
div-within (negsuc a) h = omega (arith, ints, div_below a 1000000 3000000000000000 (omega arith) (omega (arith, ints)))

-- a number that is not pulled at all
pub no_pull : (a b w : ℤ) → a ≡ b → (a -ℤ b) *ℤ w ≡ pos 0
no_pull a b w same =
    let none : a -ℤ b ≡ pos 0 = omega (arith, ints) in
    ap (λ x. x *ℤ w) none ∙ *ℤ_comm (pos 0) w ∙ *ℤ-zero w

-- the numbers on the way to a factor
pub record MovedFits (cost down up : ℤ) : Type 0 where
  pub cost_narrow : SFits w64 cost
  pub cost_wide : SFits w128 cost
  pub down_fits : SFits w128 down
  pub up_fits : SFits w128 up
  pub millions : SFits w128 (cost *ℤ pos 1000000)
  pub one : SFits w128 (cost *ℤ pos 1000000 +ℤ down)
  pub both : SFits w128 (cost *ℤ pos 1000000 +ℤ down +ℤ up)
  pub wide : SFits w128 (int_div_euclid (cost *ℤ pos 1000000 +ℤ down +ℤ up) (pos 1000000))
  pub back : SFits w64 (int_div_euclid (cost *ℤ pos 1000000 +ℤ down +ℤ up) (pos 1000000))
  pub within : unsigned_abs (int_div_euclid (cost *ℤ pos 1000000 +ℤ down +ℤ up) (pos 1000000)) ≤ 3000000000000000

-- fit
pub moved_fits : (cf down up : ℤ) → IsCost cf → unsigned_abs down ≤ 1000000000000000000000 →
    unsigned_abs up ≤ 1000000000000000000000 → MovedFits cf down up
moved_fits cf down up is d u =
    let low = is.low in
    let high = is.high in
    let size : unsigned_abs cf ≤ 1000000000000000 = omega (arith, ints) in
    let product : unsigned_abs (cf *ℤ pos 1000000) ≡ unsigned_abs cf * 1000000 = unsigned_abs-mul cf (pos 1000000) in
    let first : unsigned_abs (cf *ℤ pos 1000000) ≤ 1000000000000000000000 = omega arith in
    let one : unsigned_abs (cf *ℤ pos 1000000 +ℤ down) ≤ 2000000000000000000000 = omega (arith, ints) in
    let both : unsigned_abs (cf *ℤ pos 1000000 +ℤ down +ℤ up) ≤ 3000000000000000000000 = omega (arith, ints) in
    let within = div-within (cf *ℤ pos 1000000 +ℤ down +ℤ up) both in
    record {
      cost_narrow = cost-fits cf is;
      cost_wide = cost-wide cf is;
      down_fits = pull-wide down d;
      up_fits = pull-wide up u;
      millions = fits_signed_from_abs w128 _ (omega arith);
      one = fits_signed_from_abs w128 _ (omega arith);
      both = fits_signed_from_abs w128 _ (omega arith);
      wide = fits_signed_from_abs w128 _ (omega arith);
      back = fits_signed_from_abs w64 _ (omega arith);
      within = within;
    }

-- the factor that is computed from both pulls
pub moved-is : (facts : LinkFacts) (dw uw down up : ℤ) →
    down ≡ (facts.downfactor -ℤ facts.costfactor) *ℤ dw → up ≡ (facts.upfactor -ℤ facts.costfactor) *ℤ uw →
    int_div_euclid (facts.costfactor *ℤ pos 1000000 +ℤ down +ℤ up) (pos 1000000) ≡ moved_of facts dw uw
unfolding moved_of
moved-is facts dw uw down up d u = rw (d, u) refl

-- where both factors are costfactor, so is the factor of the distance
pub factor-flat : (facts : LinkFacts) (dw uw : ℤ) → IsCost facts.costfactor → facts.downfactor ≡ facts.costfactor →
    facts.upfactor ≡ facts.costfactor → facts.costfactor ≡ factor_of facts dw uw
unfolding moved_of
factor-flat facts dw uw is d u =
    let low = is.low in
    let sum : facts.costfactor *ℤ pos 1000000 +ℤ (facts.downfactor -ℤ facts.costfactor) *ℤ dw +ℤ (facts.upfactor -ℤ facts.costfactor) *ℤ
    uw ≡
    facts.costfactor *ℤ pos 1000000 =
    rw (no_pull _ _ dw d, no_pull _ _ uw u) (omega (arith, ints)) in
    let same : moved_of facts dw uw ≡ facts.costfactor = ap (λ x. int_div_euclid x (pos 1000000)) sum ∙ div-exact facts.costfactor low in
    omega (arith, ints, clamps)

-- the factor is between 0 and three times the greatest cost
pub factor-within : (facts : LinkFacts) (dw uw : ℤ) → AreFacts facts → IsWeight dw → IsWeight uw →
    (pos 0 ≤ℤ factor_of facts dw uw) × (factor_of facts dw uw ≤ℤ pos 3000000000000000)
unfolding moved_of
factor-within facts dw uw is d u =
    let down = pull_fits facts.downfactor facts.costfactor dw is.downfactor is.costfactor d in
    let up = pull_fits facts.upfactor facts.costfactor uw is.upfactor is.costfactor u in
    let both = moved_fits facts.costfactor ((facts.downfactor -ℤ facts.costfactor) *ℤ dw) ((facts.upfactor -ℤ facts.costfactor) *ℤ uw)
    is.costfactor down.within up.within in
    let within : unsigned_abs (moved_of facts dw uw) ≤ 3000000000000000 = both.within in
    (omega (arith, ints, clamps), omega (arith, ints, clamps))

-- the factor of the distance moves with the weights as it should
pub moves-with_weights : (facts : LinkFacts) → MovesWithWeights facts
unfolding moved_of
moves-with_weights facts =
    record {
      down = λ above less more uw h.
          let k : pos 0 ≤ℤ (facts.downfactor -ℤ facts.costfactor) = omega (arith, ints) in
          let p = mul-grows _ less more k h in
          let q : moved_of facts less uw ≤ℤ moved_of facts more uw = div-grows _ _ (omega (arith, ints)) in
          omega (arith, ints, clamps);
      up = λ above less more dw h.
          let k : pos 0 ≤ℤ (facts.upfactor -ℤ facts.costfactor) = omega (arith, ints) in
          let p = mul-grows _ less more k h in
          let q : moved_of facts dw less ≤ℤ moved_of facts dw more = div-grows _ _ (omega (arith, ints)) in
          omega (arith, ints, clamps);
      down_same = λ same one other uw. rw (no_pull _ _ one same, no_pull _ _ other same) refl;
      up_same = λ same one other dw. rw (no_pull _ _ one same, no_pull _ _ other same) refl;
    }

-- a pull downward is no more than the whole
pull-least : (x w : ℤ) → IsWeight w → (int_min (pos 0) x *ℤ pos 1000000) ≤ℤ (x *ℤ w)
pull-least (pos n) (pos m) is =
    let none : int_min (pos 0) (pos n) ≡ pos 0 = omega (arith, ints, clamps) in
    rw none (omega (arith, ints))
pull-least (negsuc n) (pos m) is =
    let high = is.high in
    let p : suc n * m ≤ suc n * 1000000 = mul-le (suc n) m (suc n) 1000000 (omega arith) (omega (arith, ints)) in
    omega (arith, ints)
pull-least x (negsuc m) is = absurd (omega (arith, ints, is.low))

-- what is at least so many millions is at least so many when divided
least-div : (x y : ℤ) → (x *ℤ pos 1000000) ≤ℤ y → x ≤ℤ int_div_euclid y (pos 1000000)
least-div (pos a) (pos b) h = omega (arith, ints, le-div a b 1000000 (omega arith) (omega (arith, ints)))
least-div (pos a) (negsuc b) h = absurd (omega (arith, ints))
least-div (negsuc a) (pos b) h = omega (arith, ints)
least-div (negsuc a) (negsuc b) h = omega (arith, ints, div_below b 1000000 (suc a) (omega arith) (omega (arith, ints)))

-- the low form is no more than the factor, whatever the weights
pub least-factor : (facts : LinkFacts) (dw uw : ℤ) → IsWeight dw → IsWeight uw → least_factor facts ≤ℤ factor_of facts dw uw
unfolding moved_of least_factor
least-factor facts dw uw d u =
    let down = pull-least (facts.downfactor -ℤ facts.costfactor) dw d in
    let up = pull-least (facts.upfactor -ℤ facts.costfactor) uw u in
    let whole = least-div (facts.costfactor +ℤ int_min (pos 0) (facts.downfactor -ℤ facts.costfactor) +ℤ int_min (pos 0)
    (facts.upfactor -ℤ facts.costfactor))
    (facts.costfactor *ℤ pos 1000000 +ℤ (facts.downfactor -ℤ facts.costfactor) *ℤ dw +ℤ (facts.upfactor -ℤ facts.costfactor) *ℤ uw)
    (omega (arith, ints)) in
    omega (arith, ints, clamps)

-- nor is the low form of the distance part more than the distance part
pub least-distance : (facts : LinkFacts) (dw uw : ℤ) → IsWeight dw → IsWeight uw → least_distance facts ≤ℤ distance_of facts dw uw
unfolding least_factor
least-distance facts dw uw d u =
    per_metre-grows facts.arrow.len _ _ (omega (arith, ints, clamps)) (least-factor facts dw uw d u)
