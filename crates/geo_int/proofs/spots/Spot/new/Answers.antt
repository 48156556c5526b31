use Rattle.std.proofs.Common.{refl, rules, arith}
use Rattle.std.proofs.lemmas.Int.{to_z-of_z}
use Rattle.geo_int.proofs.PartLemmas.{CountFits, count_fits}
use Rattle.geo_int.proofs.spots.Spot.new.Goals as goal

lon : (c : goal.Else-lat-gt90000000) → CountFits c.args.lon 180000000
lon c = count_fits _ _ _ (omega arith) refl (simp (to_z-of_z, c.ranges.lon) at c.if-lon-ltminus180000000.false)
    (simp (to_z-of_z, c.ranges.lon) at c.if-lon-gt180000000.false)

lat : (c : goal.Else-lat-gt90000000) → CountFits c.args.lat 90000000
lat c = count_fits _ _ _ (omega arith) refl (simp (to_z-of_z, c.ranges.lat) at c.if-lat-ltminus90000000.false)
    (simp (to_z-of_z, c.ranges.lat) at c.if-lat-gt90000000.false)

pub overflow_add-result : goal.overflow_add-result
overflow_add-result c = simp (to_z-of_z, c.ranges.lon) (lon c).sum

pub overflow_cast-result : goal.overflow_cast-result
overflow_cast-result c =
    let is = lon c in
    let positive = is.positive in
    simp (to_z-of_z, c.ranges.lon, is.sum) (search rules, is.count)

pub overflow_add-result-2 : goal.overflow_add-result-2
overflow_add-result-2 c = simp (to_z-of_z, c.ranges.lat) (lat c).sum

pub overflow_cast-result-2 : goal.overflow_cast-result-2
overflow_cast-result-2 c =
    let is = lat c in
    let positive = is.positive in
    simp (to_z-of_z, c.ranges.lat, is.sum) (search rules, is.count)

pub invariant_of-result : goal.invariant_of-result
invariant_of-result c =
    let east = lon c in
    let north = lat c in
    simp (to_z-of_z, c.ranges.lon, c.ranges.lat, east.sum, north.sum) (record { within_longitude = east.most; within_latitude = north.most })
