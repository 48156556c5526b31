-- No node is nearer than it lies north or south.
use Rattle.std.proofs.Common.{◌≡◌, ℕ, pos, ◌*◌, ◌/◌, ◌<◌, ◌≤◌, ◌-◌, ◌-ℤ◌, ◌*ℤ◌, unsigned_abs, refl, arith, inl, inr}
use Rattle.std.proofs.lemmas.Int.{ints, unsigned_abs-mul}
use Rattle.std.proofs.lemmas.Bool.{cases_order}
use Rattle.geo_int.specs.Place.{Place}
use Rattle.geo_int.specs.Arrow.{length_between, north_between, north_part, east_between, arrow_of}
use Rattle.geo_int.proofs.ArrowLemmas.{arrow_of-IsArrow}
use Rattle.geo_int.proofs.CallerLemmas.{north_le}
use Rattle.geo_int.proofs.QuotientLemmas.{unsigned_abs-int_div}
use Rattle.nearest_node.specs.Index.{height_of}

-- the part to the north is the difference of latitude in millimetres, rounded down
pub north-is : (a b : Place) → unsigned_abs (north_between a b) ≡ unsigned_abs (b.lat -ℤ a.lat) * 11132 / 100
unfolding north_between north_part
north-is a b =
    rw (unsigned_abs-int_div ((b.lat -ℤ a.lat) *ℤ pos 11132) 100, unsigned_abs-mul (b.lat -ℤ a.lat) (pos 11132)) refl

-- and it is within a length of at most 100 kilometres
pub north-within : (a b : Place) → length_between a b ≤ 100000000 → unsigned_abs (north_between a b) ≤ length_between a b
unfolding length_between
north-within a b short =
    let arrow = arrow_of (east_between a b) (north_between a b) in
    north_le arrow (arrow_of-IsArrow arrow (east_between a b) (north_between a b) refl short)

-- the difference of two heights is within that of the latitudes
pub heights-apart : (a b : Place) → height_of b - height_of a ≤ unsigned_abs (b.lat -ℤ a.lat)
heights-apart a b = omega (arith, ints)

-- and the other way round
pub heights-back : (a b : Place) → height_of a - height_of b ≤ unsigned_abs (b.lat -ℤ a.lat)
heights-back a b = omega (arith, ints)

-- where one lies so far north or south of the other, it is as far away
pub far-off : (a b : Place) (apart reach : ℕ) → reach ≤ 250001 → apart ≤ unsigned_abs (b.lat -ℤ a.lat) →
    reach < apart * 11132 / 100 → reach < length_between a b
far-off a b apart reach small within far =
    let more : apart * 11132 / 100 ≤ unsigned_abs (b.lat -ℤ a.lat) * 11132 / 100 = omega (arith, within) in
    let from_short : length_between a b ≤ 100000000 → reach < length_between a b =
    λ short. omega (arith, north-is a b, north-within a b short, more, far) in
    elim (cases_order 100000000 (length_between a b)) [
      | inl same ↦ from_short (omega (arith, same))
      | inr differ ↦ elim differ [
        | inl long ↦ omega (arith, long, small)
        | inr short ↦ from_short (omega (arith, short))
      ]
    ]
