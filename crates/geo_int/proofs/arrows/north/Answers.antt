use Rattle.std.proofs.Common.{◌-ℤ◌, arith}
use Rattle.std.proofs.lemmas.Int.{to_z-of_z}
use Rattle.geo_int.proofs.PartLemmas.{latitude_le, pair_fits, north_fits, north-computed}
use Rattle.geo_int.proofs.arrows.north.Goals as goal

pub overflow_sub-result : goal.overflow_sub-result
overflow_sub-result c =
    let pair = pair_fits c.lat.result c.lat-2.result (omega (arith, latitude_le c.args.b c.lat.result c.lat.ensures.value))
    (omega (arith, latitude_le c.args.a c.lat-2.result c.lat-2.ensures.value)) in
    simp (to_z-of_z, pair.first, pair.second) (pair.difference)

pub overflow_mul-result : goal.overflow_mul-result
overflow_mul-result c =
    let pair = pair_fits c.lat.result c.lat-2.result (omega (arith, latitude_le c.args.b c.lat.result c.lat.ensures.value))
    (omega (arith, latitude_le c.args.a c.lat-2.result c.lat-2.ensures.value)) in
    let fits = north_fits (c.lat.result -ℤ c.lat-2.result) pair.difference_le in
    simp (to_z-of_z, pair.first, pair.second, pair.difference) (fits.product)

pub returns-clause-exact : goal.returns-clause-exact
returns-clause-exact c =
    let pair = pair_fits c.lat.result c.lat-2.result (omega (arith, latitude_le c.args.b c.lat.result c.lat.ensures.value))
    (omega (arith, latitude_le c.args.a c.lat-2.result c.lat-2.ensures.value)) in
    let fits = north_fits (c.lat.result -ℤ c.lat-2.result) pair.difference_le in
    simp (to_z-of_z, pair.first, pair.second, pair.difference, fits.product, fits.quotient)
    (north-computed c.args.a c.args.b c.lat-2.result c.lat.result c.lat-2.ensures.value c.lat.ensures.value)

pub returns-clause-within : goal.returns-clause-within
returns-clause-within c =
    let pair = pair_fits c.lat.result c.lat-2.result (omega (arith, latitude_le c.args.b c.lat.result c.lat.ensures.value))
    (omega (arith, latitude_le c.args.a c.lat-2.result c.lat-2.ensures.value)) in
    let fits = north_fits (c.lat.result -ℤ c.lat-2.result) pair.difference_le in
    simp (to_z-of_z, pair.first, pair.second, pair.difference, fits.product, fits.quotient) (fits.within)
