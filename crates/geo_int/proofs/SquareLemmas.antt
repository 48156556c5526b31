-- Squares of signed numbers are those of their magnitudes.
use Rattle.std.proofs.Common.{◌+ℤ◌, ◌≡◌, ◌+◌, ◌*◌, ℤ, pos, negsuc, ◌*ℤ◌, unsigned_abs, ◌≤◌, ◌^◌, ℕ, Fits, refl, arith}
use Rattle.std.specs.Int.{w128}
use Rattle.std.proofs.lemmas.Nat.{mul-le}
use Rattle.geo_int.specs.Arrow.{square_sum}

-- a square is the square of the magnitude
pub square-is : (x : ℤ) → x *ℤ x ≡ pos (unsigned_abs x * unsigned_abs x)
square-is (pos n) = refl
square-is (negsuc n) = refl

-- the sum of two squares is that of the magnitudes' squares
pub square_sum-is : (x y : ℤ) → square_sum x y ≡ unsigned_abs x * unsigned_abs x + unsigned_abs y * unsigned_abs y
unfolding square_sum
square_sum-is x y = rw (square-is x, square-is y) refl

-- the sum of two squares is its magnitude
pub square_sum-dot : (x y : ℤ) → x *ℤ x +ℤ y *ℤ y ≡ pos (square_sum x y)
square_sum-dot x y = rw (square_sum-is x y, square-is x, square-is y) refl

-- the squares of two numbers of 63 bits, and their sum, fit in 128 bits
pub record SquaresFit (m n : ℕ) : Type 0 where
  pub first : Fits w128 (m * m)
  pub second : Fits w128 (n * n)
  pub sum : Fits w128 (m * m + n * n)

pub squares_fit : (m n : ℕ) → m ≤ 2 ^ 63 → n ≤ 2 ^ 63 → SquaresFit m n
squares_fit m n f g =
    let first : m * m ≤ 2 ^ 126 = mul-le m m (2 ^ 63) (2 ^ 63) f f in
    let second : n * n ≤ 2 ^ 126 = mul-le n n (2 ^ 63) (2 ^ 63) g g in
    record {
      first = record { fits = omega (arith, first) };
      second = record { fits = omega (arith, second) };
      sum = record { fits = omega (arith, first, second) };
    }
