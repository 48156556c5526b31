-- Spots that are made of coordinates.
use Rattle.std.proofs.Common.{◌≡◌, ℕ, ◌≤◌, ◌<◌, ◌^◌, ℤ, pos, unsigned_abs, List, Option, Some, None, option_map, Ok, IfSome, IsSome, sym, ap, ◌∙◌, subst, w64, to_z, of_z, arith}
use Rattle.std.proofs.lemmas.Int.{to_z-of_z, fits_signed_from_abs}
use Rattle.fixed_num.specs.Coordinate.{coordinate_of}
use Rattle.geo_int.specs.declared.spots.Spot.{Spot}
use Rattle.geo_int.specs.Place.{Place, place, IsOnGlobe}
use Rattle.geo_int.specs.Spot.{place_of}
use Rattle.route_http.specs.Value.{place_at, place_by}

-- the place of two coordinates
by_coordinates : (lon_text lat_text : List ℕ) (lon lat : ℤ) → Ok lon ≡ coordinate_of (pos 180000000) lon_text
    → Ok lat ≡ coordinate_of (pos 90000000) lat_text → Some (place lon lat) ≡ place_by lon_text lat_text
unfolding place_by
by_coordinates lon_text lat_text lon lat lon_is lat_is =
    ap (λ r. place_at r (Ok lat)) lon_is ∙ ap (λ r. place_at (coordinate_of (pos 180000000) lon_text) r) lat_is

-- a coordinate that is handed to a call is the same there
same_coordinate : (n : ℤ) → unsigned_abs n ≤ 180000000 → to_z w64 (of_z w64 n) ≡ n
same_coordinate n small =
    let few : unsigned_abs n < 2 ^ 63 = omega arith in
    to_z-of_z w64 n (fits_signed_from_abs w64 n few)

-- a spot that was made, with the place that it was to be
seen : (r : Option Spot) (at : Place) → IfSome r (λ spot. place_of spot ≡ at) → IsSome r → option_map place_of r ≡ Some at
seen None at value some = cc
seen (Some spot) at value some = ap (λ (p : Place). Some p) value

-- the place of two coordinates that are handed to a call
abbrev pub handed_on : (lon lat : ℤ) → Place
handed_on lon lat = place (to_z w64 (of_z w64 lon)) (to_z w64 (of_z w64 lat))

-- two coordinates of texts
module _ (lon_text lat_text : List ℕ) (lon lat : ℤ) (lon_is : Ok lon ≡ coordinate_of (pos 180000000) lon_text)
    (lat_is : Ok lat ≡ coordinate_of (pos 90000000) lat_text) (lon_fits : unsigned_abs lon ≤ 180000000)
    (lat_fits : unsigned_abs lat ≤ 90000000) where
  -- a spot that was made of them is the place of the texts
  pub spot_made : (r : Option Spot) → IfSome r (λ spot. place_of spot ≡ handed_on lon lat) →
      (IsOnGlobe (handed_on lon lat) → IsSome r) → option_map place_of r ≡ place_by lon_text lat_text
  spot_made r value some =
      let lon_same : to_z w64 (of_z w64 lon) ≡ lon = same_coordinate lon lon_fits in
      let lat_same : to_z w64 (of_z w64 lat) ≡ lat = same_coordinate lat (omega arith) in
      let lon_on : unsigned_abs (to_z w64 (of_z w64 lon)) ≤ 180000000 =
      subst (λ (n : ℤ). unsigned_abs n ≤ 180000000) (sym lon_same) lon_fits in
      let lat_on : unsigned_abs (to_z w64 (of_z w64 lat)) ≤ 90000000 =
      subst (λ (n : ℤ). unsigned_abs n ≤ 90000000) (sym lat_same) lat_fits in
      let on : IsOnGlobe (handed_on lon lat) = record { longitude = lon_on; latitude = lat_on } in
      seen r (handed_on lon lat) value (some on)
      ∙ ap (λ (n : ℤ). Some (place n (to_z w64 (of_z w64 lat)))) lon_same
      ∙ ap (λ (n : ℤ). Some (place lon n)) lat_same
      ∙ by_coordinates lon_text lat_text lon lat lon_is lat_is
