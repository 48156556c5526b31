use Rattle.std.proofs.Common.{SFits, w64, rules}
use Rattle.std.proofs.lemmas.Int.{to_z-of_z}
use Rattle.geo_int.specs.Circle.{offset_between}
use Rattle.geo_int.proofs.circles.seen_from.Goals as goal

pub returns : goal.returns
unfolding offset_between
returns c =
    let east : SFits w64 c.east.result = search rules in
    let north : SFits w64 c.north.result = search rules in
    simp to_z-of_z (record { exact = cc })
