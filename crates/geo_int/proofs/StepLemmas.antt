-- From one offset to another that is near, as it is computed in 64 bits.
use Rattle.std.proofs.Common.{◌≡◌, ◌≤◌, ℕ, ℤ, pos, neg_ℤ, ◌-ℤ◌, ◌*ℤ◌, int_le, unsigned_abs, Bool, SFits, w64, ap, ◌∙◌, arith}
use Rattle.std.proofs.lemmas.Int.{ints, fits_signed_from_abs}
use Rattle.geo_int.specs.Circle.{IsWithin, difference, dot, cross, foot, way_square, line_touches}
use Rattle.geo_int.specs.declared.circles.Offset.{Offset}
use Rattle.geo_int.proofs.ProductLemmas.{unsigned_abs-sub}

-- the parts of two offsets and of their difference fit in a word
pub record StepFits (a b : Offset) : Type 0 where
  pub first_east : SFits w64 a.east
  pub first_north : SFits w64 a.north
  pub second_east : SFits w64 b.east
  pub second_north : SFits w64 b.north
  pub east : SFits w64 (b.east -ℤ a.east)
  pub north : SFits w64 (b.north -ℤ a.north)
  pub within : IsWithin 600000000 (difference a b)

-- where both are within 300 kilometres
pub step_fits : (a b : Offset) → IsWithin 300000000 a → IsWithin 300000000 b → StepFits a b
step_fits a b f g =
    let east : unsigned_abs (b.east -ℤ a.east) ≤ 600000000 = omega (arith, unsigned_abs-sub b.east a.east, f.east, g.east) in
    let north : unsigned_abs (b.north -ℤ a.north) ≤ 600000000 = omega (arith, unsigned_abs-sub b.north a.north, f.north, g.north) in
    record {
      first_east = fits_signed_from_abs w64 _ (omega (arith, f.east));
      first_north = fits_signed_from_abs w64 _ (omega (arith, f.north));
      second_east = fits_signed_from_abs w64 _ (omega (arith, g.east));
      second_north = fits_signed_from_abs w64 _ (omega (arith, g.north));
      east = fits_signed_from_abs w64 _ (omega (arith, east));
      north = fits_signed_from_abs w64 _ (omega (arith, north));
      within = record { east = east; north = north };
    }

-- what is near lies within twice as much
pub within_twice : (a : Offset) → IsWithin 300000000 a → IsWithin 600000000 a
within_twice a f = record { east = omega (arith, f.east); north = omega (arith, f.north) }

-- a sum of products and its opposite fit in a word
pub record SumFits (sum : ℤ) : Type 0 where
  pub whole : SFits w64 sum
  pub back : SFits w64 (pos 0 -ℤ sum)

-- where it is that of two offsets
pub sum_fits : (sum : ℤ) → unsigned_abs sum ≤ 720000000000000000 → SumFits sum
sum_fits sum within =
    let back : unsigned_abs (pos 0 -ℤ sum) ≤ 720000000000000000 = omega (arith, ints, within) in
    record { whole = fits_signed_from_abs w64 _ (omega (arith, within)); back = fits_signed_from_abs w64 _ (omega (arith, back)) }

-- what is left of nothing is the opposite
zero-sub : (z : ℤ) → pos 0 -ℤ z ≡ neg_ℤ z
zero-sub z = omega (arith, ints)

-- what was computed step by step is the foot
pub foot-computed : (a b way : Offset) (sum : ℤ) → way ≡ difference a b → sum ≡ dot a way → pos 0 -ℤ sum ≡ foot a b
foot-computed a b way sum e f = zero-sub sum ∙ ap neg_ℤ (f ∙ ap (dot a) e)

-- and so is the test of the line
pub line_touches-computed : (a b : Offset) (square : ℕ) (area way : ℤ) (result : Bool) → area ≡ cross a b → way ≡ way_square a b →
    result ≡ int_le (area *ℤ area) (pos square *ℤ way) → result ≡ line_touches a b square
line_touches-computed a b square area way result e f h =
    h ∙ ap (λ x. int_le (x *ℤ x) (pos square *ℤ way)) e ∙ ap (λ x. int_le (cross a b *ℤ cross a b) (pos square *ℤ x)) f
