use Rattle.std.proofs.Common.{◌≡◌, ◌≤◌, length, rules, subst}
use Rattle.route_http.specs.Seen.{asked}
use Rattle.route_ready.specs.World.{world_of}
use Rattle.route_engine.specs.Placings.{placing_for, work_of_placing}
use Rattle.route_engine.proofs.AskingLemmas.{few-turned}
use Rattle.route_engine.proofs.asking.turned.Goals as goal

pub returns-clause-few : goal.returns-clause-few
returns-clause-few g c =
    let world = world_of c.args.world.now in
    let made : c.in_ok-request.request.value ≡ c.args.request = c.in_ok-request.ensures.ok in
    let same : c.in_ok-kept.kept.value ≡ c.args.request = search (rules, c.in_ok-kept.ensures, made) in
    few-turned (g.S.Search.work world) (g.S.Search.left world) (g.S.Search.most_for world.map) world c.args.request c.in_ok-placing.placing c.in_ok-kept.kept same
    (subst (λ q. work_of_placing world c.in_ok-placing.placing ≤ placing_for (length world.map.links) (asked q)) made
    c.in_ok-placing.ensures.few)
