-- The cosine of a turn from one arrow to the next, in millionths (this project's own rule).
use Rattle.std.specs.Prelude.{ℕ, ℤ, pos, negsuc, ◌+ℤ◌, ◌*ℤ◌, ◌*◌, ◌==◌, int_div, cond}
use Rattle.std.specs.Int.{int_max, int_min}
use Rattle.geo_int.specs.declared.offsets.Arrow.{Arrow}

-- the sum of the products of the parts
abbrev pub arrow_dot : Arrow → Arrow → ℤ
arrow_dot first second = first.dx *ℤ second.dx +ℤ first.dy *ℤ second.dy

-- a cosine in millionths, held within its bounds
abbrev pub held : ℤ → ℤ
held millionths = int_max (negsuc 999999) (int_min millionths (pos 1000000))

-- the quotient of a sum of products by the product of the lengths in millionths, cut toward zero
abbrev pub quotient : ℤ → ℕ → ℤ
quotient dot lengths = int_div (dot *ℤ pos 1000000) (pos lengths)

-- the cosine of the turn from the first arrow to the second; straight on where one has no length
unfoldable pub turn_cosine : Arrow → Arrow → ℤ
turn_cosine first second =
    cond (first.len * second.len == 0) (pos 1000000)
    (held (quotient (arrow_dot first second) (first.len * second.len)))
