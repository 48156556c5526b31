use Rattle.std.proofs.Common.{SFits, rules, arith}
use Rattle.std.specs.Int.{w128}
use Rattle.std.proofs.lemmas.Int.{to_z-of_z}
use Rattle.route_certificate.proofs.low.Low.least.Goals as goal

pub returns-clause-first : goal.returns-clause-first
returns-clause-first c =
    let x : SFits w128 c.min.result = record { sfits = c.min.type_inv } in
    let y : SFits w128 c.min-2.result = record { sfits = c.min-2.type_inv } in
    let z : SFits w128 c.min-3.result = record { sfits = c.min-3.type_inv } in
    let ax : SFits w128 c.args.self.now.point.x = search rules in
    let ay : SFits w128 c.args.self.now.point.y = search rules in
    let az : SFits w128 c.args.self.now.point.z = search rules in
    simp (to_z-of_z, x, y, z) (record {
      under = record {
        x = simp (to_z-of_z, ax) at c.min.ensures.self_bound;
        y = simp (to_z-of_z, ay) at c.min-2.ensures.self_bound;
        z = simp (to_z-of_z, az) at c.min-3.ensures.self_bound;
      };
      cost = omega (arith, c.min-cost.ensures);
    })

pub returns-clause-second : goal.returns-clause-second
returns-clause-second c =
    let x : SFits w128 c.min.result = record { sfits = c.min.type_inv } in
    let y : SFits w128 c.min-2.result = record { sfits = c.min-2.type_inv } in
    let z : SFits w128 c.min-3.result = record { sfits = c.min-3.type_inv } in
    let ax : SFits w128 c.args.other.now.point.x = search rules in
    let ay : SFits w128 c.args.other.now.point.y = search rules in
    let az : SFits w128 c.args.other.now.point.z = search rules in
    simp (to_z-of_z, x, y, z) (record {
      under = record {
        x = simp (to_z-of_z, ax) at c.min.ensures.other_bound;
        y = simp (to_z-of_z, ay) at c.min-2.ensures.other_bound;
        z = simp (to_z-of_z, az) at c.min-3.ensures.other_bound;
      };
      cost = omega (arith, c.min-cost.ensures);
    })
