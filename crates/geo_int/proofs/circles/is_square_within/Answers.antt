use Rattle.std.proofs.Common.{◌*ℤ◌, FitsSigned, refl, arith}
use Rattle.std.specs.Int.{w128}
use Rattle.std.proofs.lemmas.Int.{to_z-of_z, fits_signed_from_abs}
use Rattle.geo_int.proofs.ProductLemmas.{product_le}
use Rattle.geo_int.proofs.circles.is_square_within.Goals as goal

pub returns : goal.returns
returns c =
    let area : FitsSigned w128 c.args.area = fits_signed_from_abs w128 _ (omega arith) in
    let reach : FitsSigned w128 c.args.reach = fits_signed_from_abs w128 _ (omega arith) in
    let base : FitsSigned w128 c.args.base = fits_signed_from_abs w128 _ (omega arith) in
    let square : FitsSigned w128 (c.args.area *ℤ c.args.area) = fits_signed_from_abs w128 _
    (omega (arith, product_le c.args.area c.args.area 180000000000000000 180000000000000000 c.requires.area c.requires.area)) in
    let strip : FitsSigned w128 (c.args.reach *ℤ c.args.base) = fits_signed_from_abs w128 _
    (omega (arith, product_le c.args.reach c.args.base 10000000000000000 720000000000000000 c.requires.reach c.requires.base)) in
    simp (to_z-of_z, c.ranges.area, c.ranges.reach, c.ranges.base, area, reach, base, square, strip) (record { exact = refl })
