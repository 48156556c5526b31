use Rattle.std.proofs.Common.{◌≡◌, Some, length, arith, refl, subst}
use Rattle.route_http.specs.Seen.{asked}
use Rattle.route_ready.specs.World.{world_of}
use Rattle.route_engine.specs.Placings.{open_map_for}
use Rattle.route_engine.specs.Waypoints.{IsMovedOn, waypoint_at}
use Rattle.route_engine.proofs.PlacingLemmas.{moving-on}
use Rattle.route_engine.proofs.placing_steps.move_next.Goals as goal

pub returns-in_ok-push-in-Some-clause-on : goal.returns-in_ok-push-in-Some-clause-on
returns-in_ok-push-in-Some-clause-on c =
    let world = world_of c.args.world.now in
    let request = c.args.request.now in
    let number : c.len-number.result ≡ length c.args.nodes.items = omega (arith, c.len-number.ensures, c.args.nodes.ok.0) in
    moving-on world c.args.ready.now request c.args.budget c.min.result c.args.cut c.args.nodes.items c.push.new.self.items c.args.nodes
    c.in-Some.node c.stage_with.result c.requires.some c.min.ensures refl c.requires.moved c.requires.there
    (subst (λ n. IsMovedOn (open_map_for world c.args.ready.now (asked request)) (waypoint_at (asked request).waypoints n) (Some c.in-Some.node))
    number c.in-Some.ensures.exact)
    c.in_ok-push-in-Some.ensures.items (c.stage_with.ensures.stage world c.args.ready.now) (c.stage_with.ensures.less world)
    c.stage_with.ensures.free
