-- Products of signed numbers: laws, and bounds for sums of two.
use Rattle.std.proofs.Common.{◌≡◌, ℕ, ◌+◌, ◌*◌, ◌≤◌, ℤ, ◌+ℤ◌, ◌-ℤ◌, ◌*ℤ◌, unsigned_abs, SFits, w64, ap, arith}
use Rattle.std.proofs.Math.IntN.{*ℤ_comm}
use Rattle.std.proofs.lemmas.Nat.{mul-le}
use Rattle.std.proofs.lemmas.Int.{ints, unsigned_abs-mul, fits_signed_from_abs}
use borrow.Author.Differences.{up, down, same_in}

-- a product by a difference
pub mul-sub : (x y z : ℤ) → x *ℤ (y -ℤ z) ≡ x *ℤ y -ℤ x *ℤ z
mul-sub x y z =
    let e : up (y -ℤ z) + down y + up z ≡ down (y -ℤ z) + up y + down z = omega (arith, ints) in
    same_in _ _ (omega (arith, ints, ap (λ k. up x * k) e, ap (λ k. down x * k) e))

-- the square of a difference
pub square-sub : (x y : ℤ) → (y -ℤ x) *ℤ (y -ℤ x) ≡ (x *ℤ x -ℤ x *ℤ y) +ℤ (y *ℤ y -ℤ x *ℤ y)
square-sub x y =
    let d = y -ℤ x in
    omega (arith, ints, mul-sub d y x, *ℤ_comm d y, *ℤ_comm d x, mul-sub y y x, mul-sub x y x, *ℤ_comm x y)

-- the magnitude of a sum is within the sum of the magnitudes
pub unsigned_abs-add : (x y : ℤ) → unsigned_abs (x +ℤ y) ≤ unsigned_abs x + unsigned_abs y
unsigned_abs-add x y = omega (arith, ints)

-- the magnitude of a difference is within the sum of the magnitudes
pub unsigned_abs-sub : (x y : ℤ) → unsigned_abs (x -ℤ y) ≤ unsigned_abs x + unsigned_abs y
unsigned_abs-sub x y = omega (arith, ints)

-- what two products, their sum and their difference stay within
pub record TwoProducts (a b c d : ℤ) (most : ℕ) : Type 0 where
  pub first : SFits w64 a
  pub second : SFits w64 b
  pub third : SFits w64 c
  pub fourth : SFits w64 d
  pub left : SFits w64 (a *ℤ b)
  pub right : SFits w64 (c *ℤ d)
  pub sum : SFits w64 (a *ℤ b +ℤ c *ℤ d)
  pub less : SFits w64 (a *ℤ b -ℤ c *ℤ d)
  pub sum_le : unsigned_abs (a *ℤ b +ℤ c *ℤ d) ≤ 2 * most
  pub less_le : unsigned_abs (a *ℤ b -ℤ c *ℤ d) ≤ 2 * most

-- a product of bounded factors is bounded
pub product_le : (a b : ℤ) (m n : ℕ) → unsigned_abs a ≤ m → unsigned_abs b ≤ n → unsigned_abs (a *ℤ b) ≤ m * n
product_le a b m n p q = rw (unsigned_abs-mul a b) (mul-le _ _ m n p q)

-- two products of bounded factors
pub two_products : (a b c d : ℤ) (m n : ℕ) → unsigned_abs a ≤ m → unsigned_abs b ≤ n → unsigned_abs c ≤ m → unsigned_abs d ≤ n →
    m ≤ 1000000000 → n ≤ 1000000000 → TwoProducts a b c d (m * n)
two_products a b c d m n p q r s f g =
    let small = mul-le m n 1000000000 1000000000 f g in
    let left = product_le a b m n p q in
    let right = product_le c d m n r s in
    let sum = unsigned_abs-add (a *ℤ b) (c *ℤ d) in
    let less = unsigned_abs-sub (a *ℤ b) (c *ℤ d) in
    record {
      first = fits_signed_from_abs w64 _ (omega arith);
      second = fits_signed_from_abs w64 _ (omega arith);
      third = fits_signed_from_abs w64 _ (omega arith);
      fourth = fits_signed_from_abs w64 _ (omega arith);
      left = fits_signed_from_abs w64 _ (omega arith);
      right = fits_signed_from_abs w64 _ (omega arith);
      sum = fits_signed_from_abs w64 _ (omega arith);
      less = fits_signed_from_abs w64 _ (omega arith);
      sum_le = omega arith;
      less_le = omega arith;
    }
