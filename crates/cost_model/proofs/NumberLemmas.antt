-- Sums, products and quotients of the program's numbers, and the bounds that they keep.
use Rattle.std.proofs.Common.{◌≡◌, ℕ, ◌*◌, ◌/◌, ◌≤◌, ℤ, pos, negsuc, ◌+ℤ◌, ◌-ℤ◌, ◌*ℤ◌, ◌≤ℤ◌, nat_abs, refl, ap, ◌∙◌, sym, unsigned_abs, int_div, SFits, w64, to_z, of_z, arith}
use Rattle.std.specs.Int.{w128, int_div_euclid}
use Rattle.std.proofs.lemmas.Int.{ints, to_z-of_z, to_z_pos, fits_signed_from_abs, unsigned_abs-mul}
use Rattle.std.proofs.lemmas.Nat.{mul-le}
use Rattle.std.proofs.Math.Nat.{div-le_self}
use Rattle.cost_model.specs.Facts.{IsCost}
use Rattle.cost_model.specs.Parts.{per_metre, turn_price, IsWeight, ArePaid, sum_of}
use Rattle.cost_model.specs.declared.parts.Parts.{Parts}

-- a rate that is no less than nothing comes to a count
pub per_metre-pos : (length n : ℕ) → per_metre length (pos n) ≡ pos (length * n / 1000)
unfolding per_metre
per_metre-pos length n = refl

-- what is computed in 64 bits for a small rate
pub along-narrow : (length : ℕ) (rate : ℤ) → SFits w64 rate → length ≤ 100000000 → pos 0 ≤ℤ rate → rate ≤ℤ pos 90000000000 →
    to_z w128 (length * nat_abs (to_z w64 (of_z w64 rate)) / 1000) ≡ per_metre length rate
along-narrow length (pos n) fits short low high =
    let small : length * n ≤ 100000000 * 90000000000 = mul-le length n 100000000 90000000000 short (omega (arith, ints)) in
    let below : length * n / 1000 ≤ length * n = div-le_self (length * n) 1000 in
    rw (to_z-of_z w64 (pos n) fits, per_metre-pos length n) (to_z_pos w128 (length * n / 1000) (omega arith))
along-narrow length (negsuc n) fits short low high = absurd (omega (arith, ints))

-- what is computed in 128 bits for a large rate
pub along-wide : (length : ℕ) (rate : ℤ) → SFits w64 rate → length ≤ 100000000 → pos 0 ≤ℤ rate → rate ≤ℤ pos 3000000000000000 →
    to_z w128 (of_z w128 (int_div (to_z w128 (of_z w128 (to_z w128 length *ℤ to_z w128 (of_z w128 (to_z w64 (of_z w64 rate))))))
    (pos 1000)))
    ≡ per_metre length rate
along-wide length (pos n) fits short low high =
    let small : length * n ≤ 100000000 * 3000000000000000 = mul-le length n 100000000 3000000000000000 short (omega (arith, ints)) in
    let below : length * n / 1000 ≤ length * n = div-le_self (length * n) 1000 in
    let l : to_z w128 length ≡ pos length = to_z_pos w128 length (omega arith) in
    let rate_fits : SFits w128 (pos n) = fits_signed_from_abs w128 (pos n) (omega (arith, ints)) in
    let product : SFits w128 (pos (length * n)) = fits_signed_from_abs w128 _ (omega arith) in
    let quotient : SFits w128 (pos (length * n / 1000)) = fits_signed_from_abs w128 _ (omega arith) in
    rw (
      to_z-of_z w64 (pos n) fits,
      l,
      to_z-of_z w128 (pos n) rate_fits,
      to_z-of_z w128 (pos (length * n)) product,
      to_z-of_z w128 (pos (length * n / 1000)) quotient,
      per_metre-pos length n,
    ) refl
along-wide length (negsuc n) fits short low high = absurd (omega (arith, ints))

-- a rate that is no less than nothing comes to nothing or more
pub per_metre-low : (length : ℕ) (rate : ℤ) → pos 0 ≤ℤ rate → pos 0 ≤ℤ per_metre length rate
per_metre-low length (pos n) low = rw (per_metre-pos length n) (omega (arith, ints))
per_metre-low length (negsuc n) low = absurd (omega (arith, ints))

-- a larger rate comes to no less
pub per_metre-grows : (length : ℕ) (less more : ℤ) → pos 0 ≤ℤ less → less ≤ℤ more → per_metre length less ≤ℤ per_metre length more
per_metre-grows length (pos m) (pos n) low h =
    let product : length * m ≤ length * n = mul-le length m length n (omega arith) (omega (arith, ints)) in
    rw (per_metre-pos length m, per_metre-pos length n) (omega (arith, ints))
per_metre-grows length (pos m) (negsuc n) low h = absurd (omega (arith, ints))
per_metre-grows length (negsuc m) more low h = absurd (omega (arith, ints))

-- along at most a hundred kilometres a rate comes to at most a hundred thousand times itself
pub per_metre-high : (length : ℕ) (rate most : ℤ) → length ≤ 100000000 → pos 0 ≤ℤ rate → rate ≤ℤ most →
    per_metre length rate ≤ℤ (most *ℤ pos 100000)
per_metre-high length (pos n) (pos m) short low h =
    let product : length * n ≤ 100000000 * m = mul-le length n 100000000 m short (omega (arith, ints)) in
    rw (per_metre-pos length n) (omega (arith, ints))
per_metre-high length (pos n) (negsuc m) short low h = absurd (omega (arith, ints))
per_metre-high length (negsuc n) most short low h = absurd (omega (arith, ints))

-- a cost fits 64 bits
pub cost-fits : (n : ℤ) → IsCost n → SFits w64 n
cost-fits n is = fits_signed_from_abs w64 n (omega (arith, ints, is.low, is.high))

-- and 128
pub cost-wide : (n : ℤ) → IsCost n → SFits w128 n
cost-wide n is = fits_signed_from_abs w128 n (omega (arith, ints, is.low, is.high))

-- two numbers of the same bits are one
pub same-bits : (a b : ℤ) → SFits w64 a → SFits w64 b → of_z w64 a ≡ of_z w64 b → a ≡ b
same-bits a b f g e = sym (to_z-of_z w64 a f) ∙ ap (λ n. to_z w64 n) e ∙ to_z-of_z w64 b g

-- the bounds of a pull
pub record PullFits (factor costfactor weight : ℤ) : Type 0 where
  pub difference : SFits w64 (factor -ℤ costfactor)
  pub wide : SFits w128 (factor -ℤ costfactor)
  pub by : SFits w128 weight
  pub product : SFits w128 ((factor -ℤ costfactor) *ℤ weight)
  pub within : unsigned_abs ((factor -ℤ costfactor) *ℤ weight) ≤ 1000000000000000000000

-- a pull keeps them
pub pull_fits : (factor costfactor w : ℤ) → IsCost factor → IsCost costfactor → IsWeight w → PullFits factor costfactor w
pull_fits factor costfactor w f c is =
    let d : unsigned_abs (factor -ℤ costfactor) ≤ 1000000000000000 = omega (arith, ints, f.low, f.high, c.low, c.high) in
    let u : unsigned_abs w ≤ 1000000 = omega (arith, ints, is.low, is.high) in
    let p : unsigned_abs ((factor -ℤ costfactor) *ℤ w) ≤ 1000000000000000 * 1000000 =
    omega (
      arith,
      unsigned_abs-mul (factor -ℤ costfactor) w,
      mul-le (unsigned_abs (factor -ℤ costfactor)) (unsigned_abs w) 1000000000000000 1000000 d u,
    ) in
    record {
      difference = fits_signed_from_abs w64 _ (omega arith);
      wide = fits_signed_from_abs w128 _ (omega arith);
      by = fits_signed_from_abs w128 _ (omega arith);
      product = fits_signed_from_abs w128 _ (omega arith);
      within = omega arith;
    }

-- a number of the size of a pull fits 128 bits
pub pull-wide : (n : ℤ) → unsigned_abs n ≤ 1000000000000000000000 → SFits w128 n
pull-wide n h = fits_signed_from_abs w128 n (omega arith)

-- the parts, and the sums of the first ones
pub record SumFits (parts : Parts) : Type 0 where
  pub distance : SFits w128 parts.distance
  pub turn : SFits w128 parts.turn
  pub initial : SFits w128 parts.initial
  pub node : SFits w128 parts.node
  pub elevation : SFits w128 parts.elevation
  pub two : SFits w128 (parts.distance +ℤ parts.turn)
  pub three : SFits w128 (parts.distance +ℤ parts.turn +ℤ parts.initial)
  pub four : SFits w128 (parts.distance +ℤ parts.turn +ℤ parts.initial +ℤ parts.node)
  pub five : SFits w128 (sum_of parts)
  pub low : pos 0 ≤ℤ sum_of parts

-- stay below 2^81
pub sum_fits : (parts : Parts) → ArePaid parts → SumFits parts
sum_fits parts is =
    let record { distance = d; turn = t; initial = i; node = n; elevation = e; below = b } = is in
    record {
      distance = fits_signed_from_abs w128 _ (omega (arith, ints));
      turn = fits_signed_from_abs w128 _ (omega (arith, ints));
      initial = fits_signed_from_abs w128 _ (omega (arith, ints));
      node = fits_signed_from_abs w128 _ (omega (arith, ints));
      elevation = fits_signed_from_abs w128 _ (omega (arith, ints));
      two = fits_signed_from_abs w128 _ (omega (arith, ints));
      three = fits_signed_from_abs w128 _ (omega (arith, ints));
      four = fits_signed_from_abs w128 _ (omega (arith, ints));
      five = fits_signed_from_abs w128 _ (omega (arith, ints));
      low = omega (arith, ints);
    }

-- what a share in millionths of a small cost comes to in 64 bits
share-narrow : (cost : ℕ) (share : ℤ) → cost ≤ 4000000000000 → SFits w64 share → pos 0 ≤ℤ share → share ≤ℤ pos 2000000 →
    to_z w128 (cost * nat_abs (to_z w64 (of_z w64 share)) / 1000000) ≡ int_div_euclid (pos cost *ℤ share) (pos 1000000)
share-narrow cost (pos n) few fits low high =
    let small : cost * n ≤ 4000000000000 * 2000000 = mul-le cost n 4000000000000 2000000 few (omega (arith, ints)) in
    let below : cost * n / 1000000 ≤ cost * n = div-le_self (cost * n) 1000000 in
    rw (to_z-of_z w64 (pos n) fits) (to_z_pos w128 (cost * n / 1000000) (omega arith))
share-narrow cost (negsuc n) few fits low high = absurd (omega (arith, ints))

-- is the price of a turn
pub turn-narrow : (turncost cosine : ℤ) → SFits w64 turncost → pos 0 ≤ℤ turncost → turncost ≤ℤ pos 4000000000000 →
    unsigned_abs cosine ≤ 1000000 →
    to_z w128 (nat_abs (to_z w64 (of_z w64 turncost)) * nat_abs (to_z w64 (of_z w64 (pos 1000000 -ℤ cosine))) / 1000000)
    ≡ turn_price turncost cosine
unfolding turn_price
turn-narrow (pos n) cosine fits low high k =
    let share : SFits w64 (pos 1000000 -ℤ cosine) = fits_signed_from_abs w64 _ (omega (arith, ints)) in
    rw (to_z-of_z w64 (pos n) fits)
    (share-narrow n (pos 1000000 -ℤ cosine) (omega (arith, ints)) share (omega (arith, ints)) (omega (arith, ints)))
turn-narrow (negsuc n) cosine fits low high k = absurd (omega (arith, ints))

-- and the product on the way to it fits
pub turn-fits : (turncost cosine : ℤ) → SFits w64 turncost → pos 0 ≤ℤ turncost → turncost ≤ℤ pos 4000000000000 →
    unsigned_abs cosine ≤ 1000000 →
    unsigned_abs (to_z w64 (of_z w64 turncost)) * unsigned_abs (to_z w64 (of_z w64 (pos 1000000 -ℤ cosine)))
    ≤ 8000000000000000000
turn-fits turncost cosine fits low high k =
    let share : SFits w64 (pos 1000000 -ℤ cosine) = fits_signed_from_abs w64 _ (omega (arith, ints)) in
    rw (to_z-of_z w64 turncost fits, to_z-of_z w64 (pos 1000000 -ℤ cosine) share)
    (mul-le (unsigned_abs turncost) (unsigned_abs (pos 1000000 -ℤ cosine)) 4000000000000 2000000 (omega (arith, ints)) (omega (arith, ints)))
