use Rattle.std.proofs.Common.{SFits, rules}
use Rattle.std.specs.Int.{w128}
use Rattle.std.proofs.lemmas.Int.{to_z-of_z}
use Rattle.route_certificate.proofs.IndexLemmas.{lower-test}
use Rattle.route_certificate.proofs.low.Low.is_lower.Goals as goal

pub returns : goal.returns
returns c =
    let a = c.args.self.now.point in
    let b = c.args.point.now in
    let ax : SFits w128 a.x = search rules in
    let ay : SFits w128 a.y = search rules in
    let az : SFits w128 a.z = search rules in
    let bx : SFits w128 b.x = search rules in
    let by : SFits w128 b.y = search rules in
    let bz : SFits w128 b.z = search rules in
    simp (to_z-of_z, ax, ay, az, bx, by, bz) (record { exact = lower-test c.args.self.now b c.args.cost })
