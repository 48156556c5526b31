-- Degrees and what is beyond them, of numbers that are counted from the west or from the south.
use Rattle.std.proofs.Common.{◌≡◌, ℕ, ◌*◌, ◌/◌, ◌%◌, ◌≤◌, ℤ, pos, negsuc, ◌-ℤ◌, unsigned_abs, SFits, to_z, of_z, w16, refl, sym, ap, ◌∙◌, arith}
use Rattle.std.specs.Int.{int_div_euclid, int_rem_euclid}
use Rattle.std.proofs.lemmas.Int.{ints, to_z-of_z, to_z_pos, fits_signed_from_abs}
use Rattle.geo_int.specs.Spot.{place_of}
use Rattle.geo_int.specs.declared.spots.Spot.{Spot}
use Rattle.hgt_tiles.specs.Tiles.{corner_of_place, beyond}
use Rattle.hgt_tiles.specs.declared.names.Corner.{Corner}

-- the corner of these
abbrev made : ℤ → ℤ → Corner
made lon lat = record { lon = lon; lat = lat }

-- two corners of one longitude and one latitude are one
pub corner-same : (a b : Corner) → a.lon ≡ b.lon → a.lat ≡ b.lat → a ≡ b
corner-same a b lon lat =
    ap (λ x. made x a.lat) lon ∙ ap (λ y. made b.lon y) lat

-- microdegrees less a number of whole degrees, rounded down to degrees
floored : (n k : ℕ) (z : ℤ) → z ≡ pos n -ℤ pos (k * 1000000) → int_div_euclid z (pos 1000000) ≡ pos (n / 1000000) -ℤ pos k
floored n k (pos m) e = omega (arith, ints)
floored n k (negsuc m) e = omega (arith, ints)

-- and what is beyond
remaining : (n k : ℕ) (z : ℤ) → z ≡ pos n -ℤ pos (k * 1000000) → unsigned_abs (int_rem_euclid z (pos 1000000)) ≡ n % 1000000
remaining n k (pos m) e = omega (arith, ints)
remaining n k (negsuc m) e = omega (arith, ints)

-- a degree that is counted from the west or from the south, in 16 bits
degree : (n k : ℕ) → n ≤ 360 → k ≤ 180 → to_z w16 (of_z w16 (to_z w16 n -ℤ pos k)) ≡ pos n -ℤ pos k
degree n k small less =
    let plain : to_z w16 n ≡ pos n = to_z_pos w16 n (omega arith) in
    let fits : SFits w16 (pos n -ℤ pos k) = fits_signed_from_abs w16 _ (omega (arith, ints)) in
    simp (plain, to_z-of_z, fits) refl

-- the corner that a spot's numbers give is that of its place
pub corner-is : (spot : Spot) (corner : Corner) →
    corner ≡ record {
      lon = to_z w16 (of_z w16 (to_z w16 (spot.ilon / 1000000) -ℤ pos 180));
      lat = to_z w16 (of_z w16 (to_z w16 (spot.ilat / 1000000) -ℤ pos 90));
    } →
    corner ≡ corner_of_place (place_of spot)
corner-is spot corner is =
    let wide : spot.ilon ≤ 360000000 = spot.within_longitude in
    let high : spot.ilat ≤ 180000000 = spot.within_latitude in
    let lon = degree (spot.ilon / 1000000) 180 (omega arith) (omega arith) ∙ sym (floored spot.ilon 180 _ refl) in
    let lat = degree (spot.ilat / 1000000) 90 (omega arith) (omega arith) ∙ sym (floored spot.ilat 90 _ refl) in
    is ∙ corner-same _ (corner_of_place (place_of spot)) lon lat

-- what a spot's longitude is beyond its degree
pub beyond-lon : (spot : Spot) → beyond (place_of spot).lon ≡ spot.ilon % 1000000
beyond-lon spot = remaining spot.ilon 180 _ refl

-- and its latitude
pub beyond-lat : (spot : Spot) → beyond (place_of spot).lat ≡ spot.ilat % 1000000
beyond-lat spot = remaining spot.ilat 90 _ refl
