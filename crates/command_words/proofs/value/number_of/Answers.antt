use Rattle.std.proofs.Common.{ℕ, arith, ◌≤◌, ◌<◌, ◌^◌}
use Rattle.std.proofs.Math.Nat.{pow-le-pow_right}
use Rattle.command_words.proofs.value.number_of.Goals as goal

-- fewer than 19 digits make a number below 10 ^ 18
few : (digits : ℕ) → digits ≤ 18 → 10 ^ digits ≤ 10 ^ 18
few digits below = let some : 0 < 10 = omega arith in pow-le-pow_right some below

pub overflow_mul-number : goal.overflow_mul-number
overflow_mul-number c =
    let bound : 10 ^ c.digits.byte-index ≤ 10 ^ 18 = few c.digits.byte-index (omega arith) in
    omega (arith, bound, c.digits.invariant.small)

pub overflow_add-number : goal.overflow_add-number
overflow_add-number c =
    let bound : 10 ^ c.digits.byte-index ≤ 10 ^ 18 = few c.digits.byte-index (omega arith) in
    omega (arith, bound, c.digits.invariant.small)
