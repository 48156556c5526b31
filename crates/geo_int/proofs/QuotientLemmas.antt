-- Bounds of products and of quotients that are cut toward zero.
use Rattle.std.proofs.Common.{◌≡◌, ℕ, zero, suc, ◌*◌, ◌/◌, ◌≤◌, ℤ, pos, negsuc, neg_ℤ, ◌*ℤ◌, int_div, int_le, true, unsigned_abs, FitsSigned, w64, refl, ap, ◌∙◌, rules, arith}
use Rattle.std.specs.Int.{w128}
use Rattle.std.proofs.lemmas.Nat.{mul-le}
use Rattle.std.proofs.lemmas.Int.{ints, unsigned_abs-mul, fits_signed_from_abs, quot_fits}
use Rattle.geo_int.specs.Arrow.{east_part}

-- a number and its opposite have one magnitude
pub unsigned_abs-neg : (n : ℕ) → unsigned_abs (neg_ℤ (pos n)) ≡ n
unsigned_abs-neg zero = refl
unsigned_abs-neg (suc n) = refl

-- the magnitude of a quotient is the quotient of the magnitude
pub unsigned_abs-int_div : (z : ℤ) (n : ℕ) → unsigned_abs (int_div z (pos n)) ≡ unsigned_abs z / n
unsigned_abs-int_div (pos m) n = refl
unsigned_abs-int_div (negsuc m) n = unsigned_abs-neg (suc m / n)

-- the magnitude of a difference in degrees times that of a cosine
pub east_product : (degrees cosine : ℤ) → unsigned_abs (degrees *ℤ pos 11132 *ℤ cosine) ≡ unsigned_abs degrees * 11132 * unsigned_abs cosine
east_product degrees cosine =
    unsigned_abs-mul (degrees *ℤ pos 11132) cosine ∙ ap (λ n. n * unsigned_abs cosine) (unsigned_abs-mul degrees (pos 11132))

-- the product is bounded where the two factors are
pub east_product_le : (degrees cosine : ℤ) (most : ℕ) → unsigned_abs degrees ≤ most → unsigned_abs cosine ≤ 1000000000 →
    unsigned_abs (degrees *ℤ pos 11132 *ℤ cosine) ≤ most * 11132 * 1000000000
east_product_le degrees cosine most d c =
    rw (east_product degrees cosine) (mul-le (unsigned_abs degrees * 11132) (unsigned_abs cosine) (most * 11132) 1000000000 (omega arith) c)

-- no two places are more than 50,000 kilometres apart to the east
pub east_part_le : (degrees cosine : ℤ) → unsigned_abs degrees ≤ 360000000 → unsigned_abs cosine ≤ 1000000000 →
    unsigned_abs (east_part degrees cosine) ≤ 50000000000
unfolding east_part
east_part_le degrees cosine d c =
    let e : unsigned_abs (degrees *ℤ pos 11132 *ℤ cosine) ≤ 360000000 * 11132 * 1000000000 = east_product_le degrees cosine 360000000 d c in
    rw (unsigned_abs-int_div (degrees *ℤ pos 11132 *ℤ cosine) 100000000000) (omega arith)

-- what a product of 128 bits and its quotient stay within
pub record WideFits (degrees cosine : ℤ) : Type 0 where
  pub left : FitsSigned w128 degrees
  pub right : FitsSigned w128 cosine
  pub part : FitsSigned w128 (degrees *ℤ pos 11132)
  pub product : FitsSigned w128 (degrees *ℤ pos 11132 *ℤ cosine)
  pub quotient : FitsSigned w128 (int_div (degrees *ℤ pos 11132 *ℤ cosine) (pos 100000000000))
  pub back : FitsSigned w64 (int_div (degrees *ℤ pos 11132 *ℤ cosine) (pos 100000000000))

-- the product of a difference in degrees and a cosine stays within 128 bits, and the quotient within 64
pub wide_fits : (degrees cosine : ℤ) → unsigned_abs degrees ≤ 360000000 → unsigned_abs cosine ≤ 1000000000 → WideFits degrees cosine
unfolding east_part
wide_fits degrees cosine d c =
    let whole : unsigned_abs (degrees *ℤ pos 11132) ≡ unsigned_abs degrees * 11132 = unsigned_abs-mul degrees (pos 11132) in
    let all : unsigned_abs (degrees *ℤ pos 11132 *ℤ cosine) ≤ 360000000 * 11132 * 1000000000 =
    east_product_le degrees cosine 360000000 d c in
    let least : unsigned_abs (int_div (degrees *ℤ pos 11132 *ℤ cosine) (pos 100000000000)) ≤ 50000000000 =
    east_part_le degrees cosine d c in
    record {
      left = fits_signed_from_abs w128 _ (omega arith);
      right = fits_signed_from_abs w128 _ (omega arith);
      part = fits_signed_from_abs w128 _ (omega arith);
      product = fits_signed_from_abs w128 _ (omega arith);
      quotient = fits_signed_from_abs w128 _ (omega arith);
      back = fits_signed_from_abs w64 _ (omega arith);
    }

-- what a product of 64 bits and its quotient stay within
pub record SmallFits (degrees cosine : ℤ) : Type 0 where
  pub part : FitsSigned w64 (degrees *ℤ pos 11132)
  pub product : FitsSigned w64 (degrees *ℤ pos 11132 *ℤ cosine)
  pub quotient : FitsSigned w64 (int_div (degrees *ℤ pos 11132 *ℤ cosine) (pos 100000000000))

-- the product of a small difference in degrees and a cosine stays within 64 bits
pub small_fits : (degrees cosine : ℤ) → int_le (negsuc 799999) degrees ≡ true → int_le degrees (pos 800000) ≡ true →
    unsigned_abs cosine ≤ 1000000000 → SmallFits degrees cosine
small_fits degrees cosine low high c =
    let small : unsigned_abs degrees ≤ 800000 = omega (arith, ints, low, high) in
    let whole : unsigned_abs (degrees *ℤ pos 11132) ≡ unsigned_abs degrees * 11132 = unsigned_abs-mul degrees (pos 11132) in
    let all : unsigned_abs (degrees *ℤ pos 11132 *ℤ cosine) ≤ 800000 * 11132 * 1000000000 = east_product_le degrees cosine 800000 small c in
    let product : FitsSigned w64 (degrees *ℤ pos 11132 *ℤ cosine) = fits_signed_from_abs w64 _ (omega (arith, all)) in
    record {
      part = fits_signed_from_abs w64 _ (omega (arith, whole, small));
      product = product;
      quotient = quot_fits w64 _ _ product (search rules);
    }
