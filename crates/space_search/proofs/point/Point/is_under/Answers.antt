use Rattle.std.proofs.Common.{SFits, rules}
use Rattle.std.specs.Int.{w128}
use Rattle.std.proofs.lemmas.Int.{to_z-of_z}
use Rattle.space_search.proofs.PointLemmas.{under-test}
use Rattle.space_search.proofs.point.Point.is_under.Goals as goal

pub returns : goal.returns
returns c =
    let a = c.args.self.now in
    let b = c.args.other.now in
    let ax : SFits w128 a.x = search rules in
    let ay : SFits w128 a.y = search rules in
    let az : SFits w128 a.z = search rules in
    let bx : SFits w128 b.x = search rules in
    let by : SFits w128 b.y = search rules in
    let bz : SFits w128 b.z = search rules in
    simp (to_z-of_z, ax, ay, az, bx, by, bz) (record { exact = under-test a b })
