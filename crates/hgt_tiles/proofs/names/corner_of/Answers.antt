use Rattle.std.proofs.Common.{SFits, w16, rules, arith}
use Rattle.std.proofs.lemmas.Int.{ints, to_z-of_z}
use Rattle.hgt_tiles.proofs.names.corner_of.Goals as goal

pub returns-clause-lawful : goal.returns-clause-lawful
returns-clause-lawful c =
    let lon : SFits w16 c.in_ok-lon.lon = search rules in
    let lat : SFits w16 c.in_ok-lat.lat = search rules in
    let west = c.in_ok-lon.ensures.low in
    let east = c.in_ok-lon.ensures.high in
    let south = c.in_ok-lat.ensures.low in
    let north = c.in_ok-lat.ensures.high in
    simp (to_z-of_z, lon, lat)
    (record { west = omega (arith, ints); east = omega (arith, ints); south = omega (arith, ints); north = omega (arith, ints) })
