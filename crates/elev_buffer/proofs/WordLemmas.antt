-- What stays within words as it is computed, and what tests of order tell.
use Rattle.std.proofs.Common.{◌≡◌, ◌+◌, ◌*◌, ◌/◌, ◌^◌, ◌≤◌, ◌<◌, ℕ, ℤ, pos, negsuc, ◌+ℤ◌, ◌-ℤ◌, ◌*ℤ◌, ◌≤ℤ◌, ◌<ℤ◌, int_le, int_lt, int_div, nat_le, unsigned_abs, IsTrue, ◌↔◌, true, false, Fits, SFits, w64, to_z, of_z, refl, sym, ◌∙◌, ap, subst, arith}
use Rattle.std.specs.Int.{w128, int_div_euclid}
use Rattle.std.proofs.lemmas.Nat.{div_below}
use Rattle.std.proofs.Math.Nat.{mul-le-mul_left}
use Rattle.std.proofs.lemmas.Int.{ints, to_z-of_z, fits_signed_from_abs, clamps}
use Rattle.std.proofs.lemmas.Bool.Decides.{nat_tests}
use Rattle.elev_buffer.specs.Covers.{IsBuffer, IsInOrder, CoversLabel, Terms, label, price, excess}
use Rattle.elev_buffer.specs.Step.{IsLimits, left_of}
use Rattle.elev_buffer.specs.declared.labels.Pair.{Pair}
use Rattle.elev_buffer.specs.declared.steps.Limits.{Limits}
use Rattle.elev_buffer.proofs.NewerLemmas.{buffer-fits}
use Rattle.elev_buffer.proofs.StepLemmas.{left-positive, left-within}

-- a buffer is one still where it is read back from its word
pub buffer-back : (n : ℤ) → IsBuffer n → IsBuffer (to_z w64 (of_z w64 n))
buffer-back n is = subst IsBuffer (sym (to_z-of_z w64 n (buffer-fits n is))) is

-- a cost with one price fits in 128 bits
pub one_price-fits : (cost m : ℕ) → cost < 2 ^ 126 → m < 2 ^ 100 → Fits w128 (cost + m)
one_price-fits cost m low first = record { fits = omega (arith, low, first) }

-- and so it does with two prices together
pub both_prices-fit : (cost m : ℕ) → cost < 2 ^ 126 → m < 2 ^ 101 → Fits w128 (cost + m)
both_prices-fit cost m low both = record { fits = omega (arith, low, both) }

-- or one after the other
pub two_prices-fit : (cost m n : ℕ) → cost < 2 ^ 126 → m < 2 ^ 100 → n < 2 ^ 100 → Fits w128 (cost + m + n)
two_prices-fit cost m n low first second = record { fits = omega (arith, low, first, second) }

-- with a sign too
pub two_prices-signed : (cost m n : ℕ) → cost < 2 ^ 126 → m < 2 ^ 100 → n < 2 ^ 100 → SFits w128 (pos (cost + m + n))
two_prices-signed cost m n low first second = fits_signed_from_abs w128 _ (omega (arith, low, first, second))

-- a test of order that holds
pub order-holds : (x y : ℤ) → int_le x y ≡ true → x ≤ℤ y
order-holds x y e = grind (arith, ints)

-- and one that fails
pub order-fails : (x y : ℤ) → int_le x y ≡ false → y <ℤ x
order-fails x y e = grind (arith, ints)

-- a test of counts
count-test : (m n : ℕ) → IsTrue (nat_le m n) ↔ (m ≤ n)
count-test m n = (λ h. grind (arith, nat_tests), λ h. grind (arith, nat_tests))

-- with the order that both modes ask for, the test of the cost is that of covering
pub covered-test : (by : Terms) (a b : Pair) (ca cb m : ℕ) →
    pos m ≡ price by.modes.down by.down_rate a.down b.down +ℤ price by.modes.up by.up_rate a.up b.up →
    IsInOrder by.modes.down a.down b.down × IsInOrder by.modes.up a.up b.up →
    IsTrue (nat_le (ca + m) cb) ↔ CoversLabel by (label a (pos ca)) (label b (pos cb))
covered-test by a b ca cb m is orders = (
  λ h. let less = (count-test (ca + m) cb).0 h in record { cost = omega (arith, ints, is, less); down = orders.0; up = orders.1 },
  λ covers. let cost = covers.cost in (count-test (ca + m) cb).1 (omega (arith, ints, is, cost)),
)

-- a part of a whole in millionths, as it is computed in 128 bits
pub record ShareFits (part whole : ℤ) : Type 0 where
  pub some : 0 < of_z w128 whole
  pub some_word : 0 < of_z w64 whole
  pub wide_part : SFits w128 part
  pub wide_whole : SFits w128 whole
  pub product : SFits w128 (pos 1000000 *ℤ part)
  pub wide : SFits w128 (int_div (pos 1000000 *ℤ part) whole)
  pub back : SFits w64 (int_div (pos 1000000 *ℤ part) whole)
  pub exact : int_div (pos 1000000 *ℤ part) whole ≡ int_div_euclid (pos 1000000 *ℤ part) whole

-- it is at most a million
pub share_fits : (part whole : ℤ) → SFits w64 part → SFits w64 whole → pos 0 ≤ℤ part → part <ℤ whole → ShareFits part whole
share_fits (pos m) (pos n) f g low less =
    let below : m < n = omega (arith, ints, less) in
    let some : 0 < n = omega (arith, below) in
    let share : 1000000 * m / n < 1000000 = div_below (1000000 * m) n 1000000 some (omega (arith, below)) in
    record {
      some = some;
      some_word = some;
      wide_part = fits_signed_from_abs w128 _ (omega (arith, f.sfits));
      wide_whole = fits_signed_from_abs w128 _ (omega (arith, g.sfits));
      product = fits_signed_from_abs w128 _ (omega (arith, f.sfits));
      wide = fits_signed_from_abs w128 _ (omega (arith, share));
      back = fits_signed_from_abs w64 _ (omega (arith, share));
      exact = refl;
    }
share_fits (pos m) (negsuc n) f g low less = absurd (omega (arith, ints, less))
share_fits (negsuc m) whole f g low less = absurd (omega (arith, ints, low))

-- a small part's product fits in 64 bits
pub small_part-fits : (part : ℤ) → pos 0 ≤ℤ part → int_le part (pos 9000000000000) ≡ true → SFits w64 (pos 1000000 *ℤ part)
small_part-fits part low high =
    let most : part ≤ℤ pos 9000000000000 = order-holds part (pos 9000000000000) high in
    fits_signed_from_abs w64 _ (omega (arith, ints, low, most))

-- what is left of a full buffer fits in 64 bits
pub left-fits : (l : Limits) (r full : ℤ) → IsLimits l → SFits w64 (left_of l r full)
left-fits l r full is =
    fits_signed_from_abs w64 _ (omega (arith, ints, left-positive l r full is, left-within l r full is, is.most))

-- a price of a buffer, as it is computed in words
pub record ProductFits (rate buffer : ℤ) : Type 0 where
  pub rate_fits : Fits w128 (unsigned_abs rate)
  pub buffer_fits : Fits w128 (unsigned_abs buffer)
  pub product : Fits w128 (unsigned_abs rate * unsigned_abs buffer)
  pub exact : pos (unsigned_abs rate * unsigned_abs buffer) ≡ rate *ℤ buffer
  pub within : unsigned_abs rate * unsigned_abs buffer < 2 ^ 100

-- it is at most 10^30
pub product_fits : (rate buffer : ℤ) → IsBuffer rate → IsBuffer buffer → ProductFits rate buffer
product_fits (pos k) (pos m) is has =
    let most : m ≤ 1000000000000000 = omega (arith, ints, has.high) in
    let rate_most : k ≤ 1000000000000000 = omega (arith, ints, is.high) in
    let within : k * m < 2 ^ 100 = omega (arith, mul-le-mul_left k most, rate_most) in
    record {
      rate_fits = record { fits = omega (arith, rate_most) };
      buffer_fits = record { fits = omega (arith, most) };
      product = record { fits = omega (arith, within) };
      exact = refl;
      within = within;
    }
product_fits (pos k) (negsuc m) is has = absurd (omega (arith, ints, has.low))
product_fits (negsuc k) buffer is has = absurd (omega (arith, ints, is.low))

-- the price of what the first buffer has more, as it is computed in words
pub record PriceFits (rate first second : ℤ) : Type 0 where
  pub more : SFits w64 (first -ℤ second)
  pub product : ProductFits rate (first -ℤ second)
  pub exact : pos (unsigned_abs rate * unsigned_abs (first -ℤ second)) ≡ rate *ℤ excess first second

-- it is the product with the difference
pub price_fits : (rate first second : ℤ) → IsBuffer rate → IsBuffer first → IsBuffer second → int_lt second first ≡ true →
    PriceFits rate first second
price_fits rate first second is f s more =
    let above : second <ℤ first = grind (arith, ints) in
    let low : pos 0 ≤ℤ (first -ℤ second) = omega (arith, ints, above) in
    let high : (first -ℤ second) ≤ℤ pos 1000000000000000 = omega (arith, ints, f.high, s.low) in
    let difference : IsBuffer (first -ℤ second) = record { low = low; high = high } in
    let product = product_fits rate (first -ℤ second) is difference in
    let same : first -ℤ second ≡ excess first second = omega (arith, ints, clamps, low) in
    record { more = buffer-fits _ difference; product = product; exact = product.exact ∙ ap (λ x. rate *ℤ x) same }
