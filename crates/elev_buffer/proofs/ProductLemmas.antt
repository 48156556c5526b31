-- Products of signed numbers by a price that is not below 0.
use Rattle.std.proofs.Common.{◌≡◌, ◌+◌, ◌*◌, ◌≤◌, ℤ, pos, negsuc, ◌+ℤ◌, ◌-ℤ◌, ◌*ℤ◌, ◌≤ℤ◌, ap, arith}
use Rattle.std.proofs.Math.Nat.{mul-le-mul_left}
use Rattle.std.proofs.lemmas.Int.{ints}
use borrow.Author.Differences.{up, down, same_in}

-- a product by a sum
pub mul-add : (x y z : ℤ) → x *ℤ (y +ℤ z) ≡ x *ℤ y +ℤ x *ℤ z
mul-add x y z =
    let e : up (y +ℤ z) + down y + down z ≡ down (y +ℤ z) + up y + up z = omega (arith, ints) in
    same_in _ _ (omega (arith, ints, ap (λ k. up x * k) e, ap (λ k. down x * k) e))

-- a product by a difference
pub mul-sub : (x y z : ℤ) → x *ℤ (y -ℤ z) ≡ x *ℤ y -ℤ x *ℤ z
mul-sub x y z =
    let e : up (y -ℤ z) + down y + up z ≡ down (y -ℤ z) + up y + down z = omega (arith, ints) in
    same_in _ _ (omega (arith, ints, ap (λ k. up x * k) e, ap (λ k. down x * k) e))

-- a product grows with its factor
pub mul-grows : (k x y : ℤ) → pos 0 ≤ℤ k → x ≤ℤ y → (k *ℤ x) ≤ℤ (k *ℤ y)
mul-grows (pos n) x y positive h =
    let e : up x + down y ≤ up y + down x = omega (arith, ints) in
    omega (arith, ints, mul-le-mul_left n e)
mul-grows (negsuc n) x y positive h = absurd (omega (arith, ints))
