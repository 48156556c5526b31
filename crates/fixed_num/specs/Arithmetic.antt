-- The four operations on numbers, over unbounded whole numbers of millionths. This project's own rule.
use Rattle.std.specs.Prelude.{ℤ, pos, negsuc, zero, suc, ◌+ℤ◌, ◌-ℤ◌, ◌*ℤ◌, unsigned_abs, int_div, nat_le, if◌then◌else◌, Result, Ok, Err}
use Rattle.fixed_num.specs.declared.arithmetic.Arith.{Arith}
use Rattle.fixed_num.specs.declared.arithmetic.Arith.TheVariants.{DivZero, TooLarge}

-- the result that comes to so many millionths: the number, or `TooLarge` where it is out of range
abbrev pub within_range : ℤ → Result ℤ Arith
within_range n = if nat_le (unsigned_abs n) 1000000000000000 then Ok n else Err TooLarge

-- the sum of two numbers
unfoldable pub sum_of : ℤ → ℤ → Result ℤ Arith
sum_of a b = within_range (a +ℤ b)

-- the difference of two numbers
unfoldable pub difference_of : ℤ → ℤ → Result ℤ Arith
difference_of a b = within_range (a -ℤ b)

-- the product of two numbers, cut toward zero to a whole millionth
unfoldable pub product_of : ℤ → ℤ → Result ℤ Arith
product_of a b = within_range (int_div (a *ℤ b) (pos 1000000))

-- the quotient of two numbers, cut toward zero to a whole millionth; `DivZero` where the divisor is 0
unfoldable pub quotient_of : ℤ → ℤ → Result ℤ Arith
quotient_of a (pos zero) = Err DivZero
quotient_of a (pos (suc n)) = within_range (int_div (a *ℤ pos 1000000) (pos (suc n)))
quotient_of a (negsuc n) = within_range (int_div (a *ℤ pos 1000000) (negsuc n))
