-- Quotients of signed numbers that are cut toward zero.
use Rattle.std.proofs.Common.{◌≡◌, ◌≢◌, ℕ, zero, suc, ◌*◌, ◌/◌, ◌^◌, ◌<◌, ◌≤◌, ℤ, pos, negsuc, ◌*ℤ◌, neg_ℤ, refl, ap, ◌∙◌, arith, unsigned_abs, int_div, FitsSigned, of_z, to_z, lit<, true}
use Rattle.std.proofs.lemmas.Int.{fits_signed_from_abs, unsigned_abs-mul, to_z-of_z}
use Rattle.std.proofs.lemmas.Nat.{mul-le}
use Rattle.std.proofs.Math.Nat.{div-le_self}
use Rattle.fixed_num.specs.Number.{IsNumber}
use Rattle.std.proofs.lemmas.Bool.Decides.{nat_tests}
use lib.Signed.{lt_z}
use mir.Syntax.{Width, w64, w128}
use mir.Val.{hbits, bits}

-- changing the sign keeps the size
pub unsigned_abs-neg_ℤ : (n : ℕ) → unsigned_abs (neg_ℤ (pos n)) ≡ n
unsigned_abs-neg_ℤ zero = refl
unsigned_abs-neg_ℤ (suc n) = refl

-- a quotient is no larger than the number that was divided
pub unsigned_abs-int_div-le : (a d : ℤ) → unsigned_abs (int_div a d) ≤ unsigned_abs a
unsigned_abs-int_div-le (pos a) (pos b) = div-le_self a b
unsigned_abs-int_div-le (pos a) (negsuc b) = omega (arith, unsigned_abs-neg_ℤ (a / suc b), div-le_self a (suc b))
unsigned_abs-int_div-le (negsuc a) (pos b) = omega (arith, unsigned_abs-neg_ℤ (suc a / b), div-le_self (suc a) b)
unsigned_abs-int_div-le (negsuc a) (negsuc b) = div-le_self (suc a) (suc b)

-- the bits of a number that fits and isn't 0 aren't all 0
pub of_z-positive : (w : Width) (d : ℤ) → 2 ^ hbits w < 2 ^ bits w → FitsSigned w d → d ≢ pos 0 → 0 < of_z w d
of_z-positive w (pos zero) wide f n = absurd (n refl)
of_z-positive w (pos (suc d)) wide f n = omega arith
of_z-positive w (negsuc d) wide f n = omega (arith, f.sfits)

-- a quotient fits where the number that was divided is within the type's range
pub int_div-fits : (w : Width) (a d : ℤ) → unsigned_abs a < 2 ^ hbits w → FitsSigned w (int_div a d)
int_div-fits w a d small = fits_signed_from_abs w (int_div a d) (omega (arith, unsigned_abs-int_div-le a d))

-- a number that fits 64 bits fits 128
pub fits_wide : (a : ℤ) → FitsSigned w64 a → FitsSigned w128 a
fits_wide a f = record { sfits = omega (arith, f.sfits) }

module _ (a b d A B D : ℤ) (fit_a : FitsSigned w64 a) (fit_b : FitsSigned w64 b) (fit_d : FitsSigned w64 d) (is_a : IsNumber a)
    (is_b : IsNumber b) (a_is : A ≡ to_z w64 (of_z w64 a)) (b_is : B ≡ to_z w64 (of_z w64 b)) (d_is : D ≡ to_z w64 (of_z w64 d)) where
  wide_a : to_z w128 (of_z w128 A) ≡ a
  wide_a = ap (λ z. to_z w128 (of_z w128 z)) (a_is ∙ to_z-of_z w64 a fit_a) ∙ to_z-of_z w128 a (fits_wide a fit_a)

  wide_b : to_z w128 (of_z w128 B) ≡ b
  wide_b = ap (λ z. to_z w128 (of_z w128 z)) (b_is ∙ to_z-of_z w64 b fit_b) ∙ to_z-of_z w128 b (fits_wide b fit_b)

  wide_d : to_z w128 (of_z w128 D) ≡ d
  wide_d = ap (λ z. to_z w128 (of_z w128 z)) (d_is ∙ to_z-of_z w64 d fit_d) ∙ to_z-of_z w128 d (fits_wide d fit_d)

  small : unsigned_abs (a *ℤ b) ≤ 1000000000000000 * 1000000000000000
  small = omega (arith, unsigned_abs-mul a b, mul-le (unsigned_abs a) (unsigned_abs b) 1000000000000000 1000000000000000 is_a is_b)

  product_fits : FitsSigned w128 (a *ℤ b)
  product_fits = fits_signed_from_abs w128 (a *ℤ b) (omega (arith, small))

  product_is : to_z w128 (of_z w128 (to_z w128 (of_z w128 A) *ℤ to_z w128 (of_z w128 B))) ≡ a *ℤ b
  product_is = rw (wide_a, wide_b) (to_z-of_z w128 (a *ℤ b) product_fits)

  ratio_fits : FitsSigned w128 (int_div (a *ℤ b) d)
  ratio_fits = int_div-fits w128 (a *ℤ b) d (omega (arith, small))

  -- the division in 128 bits is safe
  pub wide_ratio_safe : d ≢ pos 0 →
      (0 < of_z w128 D)
      × FitsSigned w128 (int_div (to_z w128 (of_z w128 (to_z w128 (of_z w128 A) *ℤ to_z w128 (of_z w128 B)))) (to_z w128 (of_z w128 D)))
  wide_ratio_safe nonzero = (
    rw (d_is, to_z-of_z w64 d fit_d) (of_z-positive w128 d (lit< tt) (fits_wide d fit_d) nonzero),
    rw (product_is, wide_d) ratio_fits,
  )

  -- the division in 128 bits gives the exact quotient, cut toward zero
  pub wide_ratio_is :
      to_z w128 (of_z w128 (int_div (to_z w128 (of_z w128 (to_z w128 (of_z w128 A) *ℤ to_z w128 (of_z w128 B)))) (to_z w128 (of_z w128 D))))
      ≡ int_div (a *ℤ b) d
  wide_ratio_is = rw (product_is, wide_d) (to_z-of_z w128 (int_div (a *ℤ b) d) ratio_fits)

-- what fits and isn't the type's least number has a size within the type's range
unsigned_abs-lt : (p : ℤ) → FitsSigned w64 p → lt_z (negsuc 9223372036854775807) p ≡ true → unsigned_abs p < 2 ^ 63
unsigned_abs-lt (pos p) f above = f.sfits
unsigned_abs-lt (negsuc p) f above = grind (arith, nat_tests)

module _ (a b d p r : ℤ) (fit_a : FitsSigned w64 a) (fit_b : FitsSigned w64 b) (fit_d : FitsSigned w64 d)
    (fits : FitsSigned w64 (to_z w64 (of_z w64 a) *ℤ to_z w64 (of_z w64 b))) (p_is : p ≡ to_z w64 (of_z w64 a) *ℤ to_z w64 (of_z w64 b))
    (above : lt_z (negsuc 9223372036854775807) (to_z w64 (of_z w64 p)) ≡ true)
    (r_is : r ≡ to_z w64 (of_z w64 (int_div (to_z w64 (of_z w64 p)) (to_z w64 (of_z w64 d))))) where
  fit_p : FitsSigned w64 p
  fit_p = rw p_is fits

  p_whole : p ≡ a *ℤ b
  p_whole = p_is ∙ rw (to_z-of_z w64 a fit_a, to_z-of_z w64 b fit_b) refl

  small_p : unsigned_abs p < 2 ^ 63
  small_p = let same = to_z-of_z w64 p fit_p in unsigned_abs-lt p fit_p (rw same at above)

  ratio : FitsSigned w64 (int_div p d)
  ratio = int_div-fits w64 p d small_p

  r_whole : r ≡ int_div p d
  r_whole = r_is ∙ rw (to_z-of_z w64 p fit_p, to_z-of_z w64 d fit_d) (to_z-of_z w64 (int_div p d) ratio)

  -- the division in 64 bits gives the exact quotient, cut toward zero
  pub narrow_ratio_is : to_z w128 (of_z w128 r) ≡ int_div (a *ℤ b) d
  narrow_ratio_is = rw r_whole (to_z-of_z w128 (int_div p d) (fits_wide (int_div p d) ratio)) ∙ ap (λ z. int_div z d) p_whole
