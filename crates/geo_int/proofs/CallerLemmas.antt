-- What crates above may cite: places of spots, arrows that are there, and how large cosines are.
use Rattle.std.proofs.Common.{◌≡◌, ◌≤◌, ◌*◌, ◌==◌, cond, Some, None, ℤ, pos, negsuc, ◌-ℤ◌, ◌≤ℤ◌, ap, Bool, true, false, refl, arith}
use Rattle.std.proofs.lemmas.Bool.{leb-true}
use Rattle.std.proofs.lemmas.Int.{ints, clamps}
use Rattle.geo_int.specs.Place.{Place, IsOnGlobe}
use Rattle.geo_int.specs.Spot.{place_of}
use Rattle.geo_int.specs.Arrow.{arrow_between, arrow_of, length_between, east_between, north_between, IsArrow}
use Rattle.geo_int.specs.Turn.{turn_cosine, held, quotient, arrow_dot}
use Rattle.geo_int.proofs.ArrowLemmas.{arrow_of-IsArrow, length_between-is}
pub use Rattle.geo_int.proofs.TurnLemmas.{east_le, north_le}
use Rattle.geo_int.specs.declared.offsets.Arrow.{Arrow}
use Rattle.geo_int.specs.declared.spots.Spot.{Spot}
pub use Rattle.geo_int.proofs.ProductLemmas.{unsigned_abs-add}
pub use Rattle.geo_int.proofs.RootLemmas.{root_up_to-below}

-- a spot's place is on the globe
pub place_of-IsOnGlobe : (spot : Spot) → IsOnGlobe (place_of spot)
place_of-IsOnGlobe spot = record { longitude = omega (arith, ints); latitude = omega (arith, ints) }

-- two spots of one place are one spot
pub place_of-same : (a b : Spot) → place_of a ≡ place_of b → (a.ilon ≡ b.ilon) × (a.ilat ≡ b.ilat)
place_of-same a b e =
    let lon : pos a.ilon -ℤ pos 180000000 ≡ pos b.ilon -ℤ pos 180000000 = ap (λ (p : Place). p.lon) e in
    let lat : pos a.ilat -ℤ pos 90000000 ≡ pos b.ilat -ℤ pos 90000000 = ap (λ (p : Place). p.lat) e in
    (omega (arith, ints), omega (arith, ints))

-- a choice that is there passed its test
chosen : (X : Type 0) (t : Bool) (x y : X) → cond t (Some x) None ≡ Some y → (t ≡ true) × (y ≡ x)
chosen X true x y e = (refl, cc)
chosen X false x y e = absurd (cc)

-- an arrow that is there is the one of the parts between the places, and short
pub arrow_between-found : (a b : Place) (found : Arrow) → arrow_between a b ≡ Some found →
    (found ≡ arrow_of (east_between a b) (north_between a b)) × (length_between a b ≤ 100000000)
unfolding arrow_between
arrow_between-found a b found e =
    let there = chosen Arrow _ _ found e in
    (there.1, leb-true _ _ there.0)

-- so what is known of arrows is known of it
pub arrow_between-IsArrow : (a b : Place) (found : Arrow) → arrow_between a b ≡ Some found → IsArrow found
arrow_between-IsArrow a b found e =
    let there = arrow_between-found a b found e in
    arrow_of-IsArrow found _ _ there.0 (omega (arith, length_between-is a b found there.0, there.1))

-- a choice of cosines is within a million
cosine-chosen : (t : Bool) (x : ℤ) → (negsuc 999999 ≤ℤ cond t (pos 1000000) (held x)) × (cond t (pos 1000000) (held x) ≤ℤ pos 1000000)
cosine-chosen true x = (omega (arith, ints), omega (arith, ints))
cosine-chosen false x = (omega (arith, ints, clamps), omega (arith, ints, clamps))

-- a cosine is from -1,000,000 to 1,000,000 millionths
pub turn_cosine-within : (a b : Arrow) → (negsuc 999999 ≤ℤ turn_cosine a b) × (turn_cosine a b ≤ℤ pos 1000000)
unfolding turn_cosine
turn_cosine-within a b = cosine-chosen (a.len * b.len == 0) (quotient (arrow_dot a b) (a.len * b.len))
