-- The whole part of a square root.
use Rattle.std.specs.Prelude.{ℕ, zero, suc, ◌*◌, cond, nat_le}

-- the greatest number up to `most` whose square is at most `n`
unfoldable pub root_up_to : ℕ → ℕ → ℕ
root_up_to n zero = zero
root_up_to n (suc most) = cond (nat_le (suc most * suc most) n) (suc most) (root_up_to n most)

-- the greatest number whose square is at most `n`
unfoldable pub whole_root : ℕ → ℕ
whole_root n = root_up_to n n
