-- The root of the definition is the one number that its two bounds fix.
use Rattle.std.proofs.Common.{◌≡◌, ℕ, zero, suc, ◌+◌, ◌*◌, ◌<◌, ◌≤◌, cond, nat_le, sym, arith, add-one}
use Rattle.std.proofs.lemmas.Bool.Decides.{nat_tests}
use Rattle.geo_int.specs.Root.{root_up_to, whole_root}

-- a smaller number has no larger square
square_le : (a b : ℕ) → a ≤ b → a * a ≤ b * b
square_le a b h = grind arith

-- a number is no larger than its square
le_square : (r : ℕ) → r ≤ r * r
le_square r = grind arith

-- the root is not below a number whose square is within
pub not_above : (n k r : ℕ) → k * k ≤ n → n < (r + 1) * (r + 1) → k ≤ r
not_above n k r below next = grind (arith, square_le)

-- one step of the search downwards
root_step : (n k r x : ℕ) → r ≤ k → r * r ≤ n → n < (r + 1) * (r + 1) → (r < k → x ≡ r) → cond (nat_le (k * k) n) k x ≡ r
root_step n k r x in_range below next rest = grind (arith, nat_tests, not_above)

-- the greatest number up to `most` is the root, where the root is in range
pub root_up_to-is : (n most r : ℕ) → r ≤ most → r * r ≤ n → n < (r + 1) * (r + 1) → root_up_to n most ≡ r
unfolding root_up_to
root_up_to-is n zero r in_range below next = omega arith
root_up_to-is n (suc most) r in_range below next =
    root_step n (suc most) r (root_up_to n most) in_range below next (λ h. root_up_to-is n most r (omega arith) below next)

-- a number whose square is at most `n`, and the next one's above it, is the root
pub whole_root-is : (n r : ℕ) → r * r ≤ n → n < (r + 1) * (r + 1) → r ≡ whole_root n
unfolding whole_root
whole_root-is n r below next = sym (root_up_to-is n n r (omega (arith, le_square r)) below next)

-- one step of the search keeps the square of what it finds within
step_below : (n k x : ℕ) → x * x ≤ n → cond (nat_le (k * k) n) k x * cond (nat_le (k * k) n) k x ≤ n
step_below n k x below = grind (arith, nat_tests)

-- what the search finds has a square within
pub root_up_to-below : (n most : ℕ) → root_up_to n most * root_up_to n most ≤ n
unfolding root_up_to
root_up_to-below n zero = omega arith
root_up_to-below n (suc most) = step_below n (suc most) (root_up_to n most) (root_up_to-below n most)

-- one step of the search keeps the next square above
step_next : (n k x : ℕ) → n < (k + 1) * (k + 1) → (n < k * k → n < (x + 1) * (x + 1)) →
    n < (cond (nat_le (k * k) n) k x + 1) * (cond (nat_le (k * k) n) k x + 1)
step_next n k x next rest = grind (arith, nat_tests)

-- what the search finds is followed by a square above
root_up_to-next : (n most : ℕ) → n < (most + 1) * (most + 1) → n < (root_up_to n most + 1) * (root_up_to n most + 1)
unfolding root_up_to
root_up_to-next n zero next = next
root_up_to-next n (suc most) next =
    step_next n (suc most) (root_up_to n most) next (λ h. root_up_to-next n most (rw (add-one most) h))

-- the root's square is within
pub whole_root-below : (n : ℕ) → whole_root n * whole_root n ≤ n
unfolding whole_root
whole_root-below n = root_up_to-below n n

-- the next number's square is above
pub whole_root-next : (n : ℕ) → n < (whole_root n + 1) * (whole_root n + 1)
unfolding whole_root
whole_root-next n = root_up_to-next n n (omega (arith, le_square (n + 1)))
