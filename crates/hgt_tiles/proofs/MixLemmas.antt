-- Numbers between two others, weighed in millionths.
use Rattle.std.proofs.Common.{◌≡◌, ℕ, ◌+◌, ◌-◌, ◌*◌, ◌<◌, ◌≤◌, ℤ, pos, negsuc, ◌+ℤ◌, ◌*ℤ◌, unsigned_abs, FitsSigned, w16, Some, false, refl, ap, arith}
use Rattle.std.specs.Int.{int_div_euclid}
use Rattle.std.proofs.lemmas.Nat.{mul-le}
use Rattle.std.proofs.lemmas.Int.{ints, unsigned_abs-mul}
use Rattle.hgt_tiles.specs.Height.{between, has_void, height_around}
use Rattle.hgt_tiles.specs.declared.heights.Cell.{Cell}
use Rattle.geo_int.proofs.CallerLemmas.{unsigned_abs-add}

-- a weight times a number within a bound
weighed : (weight : ℕ) (x : ℤ) (most : ℕ) → unsigned_abs x ≤ most → unsigned_abs (pos weight *ℤ x) ≤ weight * most
weighed weight x most h = rw (unsigned_abs-mul (pos weight) x) (mul-le weight (unsigned_abs x) weight most (omega arith) h)

-- what the two weighed numbers and their sum stay within
pub record MixFits (share : ℕ) (x y : ℤ) (most : ℕ) : Type 0 where
  pub first : unsigned_abs (pos (1000000 - share) *ℤ x) ≤ 1000000 * most
  pub second : unsigned_abs (pos share *ℤ y) ≤ 1000000 * most
  pub sum : unsigned_abs (pos (1000000 - share) *ℤ x +ℤ pos share *ℤ y) ≤ 1000000 * most

-- they stay within a million times the larger
pub mix_fits : (share : ℕ) (x y : ℤ) (most : ℕ) → share < 1000000 → unsigned_abs x ≤ most → unsigned_abs y ≤ most → MixFits share x y most
mix_fits share x y most small p q =
    let left = weighed (1000000 - share) x most p in
    let right = weighed share y most q in
    let sum = unsigned_abs-add (pos (1000000 - share) *ℤ x) (pos share *ℤ y) in
    let whole : (1000000 - share) * most + share * most ≡ 1000000 * most =
    let e : (1000000 - share) + share ≡ 1000000 = omega arith in omega (arith, ap (λ n. n * most) e) in
    record { first = omega arith; second = omega arith; sum = omega arith }

-- a sample is within 32,768 either way
pub sample_le : (z : ℤ) → FitsSigned w16 z → unsigned_abs z ≤ 32768
sample_le z fits = omega (arith, ints)

-- a height that is known
pub height_around-known : (cell : Cell) (height : ℤ) → has_void cell ≡ false → height ≡ between cell → Some height ≡ height_around cell
height_around-known cell height known is = rw (known, is) refl

-- a quotient that is rounded down stays within what its number stays within
pub floored_le : (z : ℤ) (most : ℕ) → unsigned_abs z ≤ 1000000 * most → unsigned_abs (int_div_euclid z (pos 1000000)) ≤ most
floored_le (pos n) most h = omega arith
floored_le (negsuc n) most h = omega arith
