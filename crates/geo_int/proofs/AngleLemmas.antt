-- The angle of a latitude and its square, as they are computed in 64 bits.
use Rattle.std.proofs.Common.{◌≡◌, ℕ, ℤ, ◌*◌, ◌/◌, ◌≤◌, unsigned_abs, Fits, w64, arith}
use Rattle.std.proofs.lemmas.Nat.{mul-le}

-- the angle of a latitude of this size, its square, and a part of that
pub record AngleFits (size : ℕ) : Type 0 where
  pub product : Fits w64 (size * 1745329252)
  pub square : Fits w64 (size * 1745329252 / 100000000 * (size * 1745329252 / 100000000))
  pub square_le : size * 1745329252 / 100000000 * (size * 1745329252 / 100000000) / 1000000000 ≤ 2500000000
  pub part : size * 1745329252 / 100000000 * (size * 1745329252 / 100000000) / 1000000000 / 90 ≤ 1000000000

-- up to 90 degrees
pub angle_fits : (size : ℕ) (lat : ℤ) → size ≡ unsigned_abs lat → unsigned_abs lat ≤ 90000000 → AngleFits size
angle_fits size lat is on_globe =
    let most : size ≤ 90000000 = omega (arith, is, on_globe) in
    let angle : size * 1745329252 / 100000000 ≤ 1570796327 = omega (arith, most) in
    let square : size * 1745329252 / 100000000 * (size * 1745329252 / 100000000) ≤ 2467401100916690929 = mul-le _ _ _ _ angle angle in
    record {
      product = record { fits = omega (arith, most) };
      square = record { fits = omega (arith, square) };
      square_le = omega (arith, square);
      part = omega (arith, square);
    }
