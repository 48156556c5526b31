use Rattle.std.proofs.Common.{◌≡◌, ◌≤◌, ◌*◌, unsigned_abs, pos, SFits, w16, w64, rules, arith, sym, ◌∙◌}
use Rattle.std.proofs.lemmas.Int.{to_z-of_z, fits_signed_from_abs}
use Rattle.std.specs.Int.{int_div_euclid}
use Rattle.hgt_tiles.specs.Height.{mix, between}
use Rattle.hgt_tiles.proofs.MixLemmas.{sample_le, height_around-known, floored_le}
use Rattle.hgt_tiles.proofs.heights.height_between.Goals as goal

pub mixed-requires-clause-first : goal.mixed-requires-clause-first
mixed-requires-clause-first c =
    let cell = c.args.cell in
    let sw : SFits w16 cell.south_west = search rules in
    let se : SFits w16 cell.south_east = search rules in
    let west : SFits w64 cell.south_west = fits_signed_from_abs w64 _ (omega (arith, sample_le _ sw)) in
    let east : SFits w64 cell.south_east = fits_signed_from_abs w64 _ (omega (arith, sample_le _ se)) in
    let made : SFits w64 c.mixed-south.result = search rules in
    simp (to_z-of_z, made)
    (c.mixed-south.ensures.within 32768 (simp (to_z-of_z, sw, west) (sample_le _ sw)) (simp (to_z-of_z, se, east) (sample_le _ se)))

pub mixed-requires-clause-second : goal.mixed-requires-clause-second
mixed-requires-clause-second c =
    let cell = c.args.cell in
    let nw : SFits w16 cell.north_west = search rules in
    let ne : SFits w16 cell.north_east = search rules in
    let west : SFits w64 cell.north_west = fits_signed_from_abs w64 _ (omega (arith, sample_le _ nw)) in
    let east : SFits w64 cell.north_east = fits_signed_from_abs w64 _ (omega (arith, sample_le _ ne)) in
    let made : SFits w64 c.mixed-north.result = search rules in
    simp (to_z-of_z, made)
    (c.mixed-north.ensures.within 32768 (simp (to_z-of_z, nw, west) (sample_le _ nw)) (simp (to_z-of_z, ne, east) (sample_le _ ne)))

pub returns : goal.returns
unfolding between
returns c =
    let cell = c.args.cell in
    let sw : SFits w16 cell.south_west = search rules in
    let se : SFits w16 cell.south_east = search rules in
    let nw : SFits w16 cell.north_west = search rules in
    let ne : SFits w16 cell.north_east = search rules in
    let sw' : SFits w64 cell.south_west = fits_signed_from_abs w64 _ (omega (arith, sample_le _ sw)) in
    let se' : SFits w64 cell.south_east = fits_signed_from_abs w64 _ (omega (arith, sample_le _ se)) in
    let nw' : SFits w64 cell.north_west = fits_signed_from_abs w64 _ (omega (arith, sample_le _ nw)) in
    let ne' : SFits w64 cell.north_east = fits_signed_from_abs w64 _ (omega (arith, sample_le _ ne)) in
    let south : SFits w64 c.mixed-south.result = search rules in
    let north : SFits w64 c.mixed-north.result = search rules in
    let all : SFits w64 c.mixed.result = search rules in
    let made : SFits w64 c.div_euclid.result = search rules in
    let a : c.mixed-south.result ≡ mix cell.east cell.south_west cell.south_east =
    simp (to_z-of_z, sw, se, sw', se') at c.mixed-south.ensures.exact in
    let b : c.mixed-north.result ≡ mix cell.east cell.north_west cell.north_east =
    simp (to_z-of_z, nw, ne, nw', ne') at c.mixed-north.ensures.exact in
    let m : c.mixed.result ≡ mix cell.north c.mixed-south.result c.mixed-north.result =
    simp (to_z-of_z, south, north) at c.mixed.ensures.exact in
    let d : c.div_euclid.result ≡ int_div_euclid c.mixed.result (pos 1000000) = simp (to_z-of_z, all) at c.div_euclid.ensures in
    let is : c.div_euclid.result ≡ between cell = cc in
    let low : unsigned_abs c.mixed-south.result ≤ 32768000000 =
    c.mixed-south.ensures.within 32768 (simp (to_z-of_z, sw, sw') (sample_le _ sw)) (simp (to_z-of_z, se, se') (sample_le _ se)) in
    let high : unsigned_abs c.mixed-north.result ≤ 32768000000 =
    c.mixed-north.ensures.within 32768 (simp (to_z-of_z, nw, nw') (sample_le _ nw)) (simp (to_z-of_z, ne, ne') (sample_le _ ne)) in
    let whole : unsigned_abs c.mixed.result ≤ 1000000 * 32768000000 =
    c.mixed.ensures.within 32768000000 (simp (to_z-of_z, south) low) (simp (to_z-of_z, north) high) in
    simp (to_z-of_z, made)
    (record {
      exact = height_around-known cell _ (sym c.is_void.ensures.exact ∙ c.if-is_void.false) is;
      within = rw d (floored_le c.mixed.result 32768000000 whole);
    })
