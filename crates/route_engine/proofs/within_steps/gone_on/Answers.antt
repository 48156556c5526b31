use Rattle.std.proofs.Common.{subst}
use Rattle.route_engine.specs.Jobs.{plan_of}
use Rattle.route_engine.specs.Sources.{TurnsSource}
use Rattle.route_engine.proofs.NearbyStepLemmas.{nearby-fits, nearby-turned, nearby-unfound, next-same}
use Rattle.route_ready.specs.World.{world_of}
use Rattle.std.proofs.Common.{length}
use Rattle.route_engine.proofs.within_steps.gone_on.Goals as goal

pub turned_to-requires-clause-next : goal.turned_to-requires-clause-next
turned_to-requires-clause-next c =
    let plan = plan_of (world_of c.args.world.now) c.args.plan in
    let turn = c.in-Ok.field-0 in
    next-same plan (length c.args.lists.items) c.args.source c.args.quota turn c.requires.next
    (subst (λ t. TurnsSource t c.args.source c.args.quota turn) c.terrain.ensures.exact c.in-Ok.ensures.turns)

pub returns-in-Ok : goal.returns-in-Ok
returns-in-Ok c =
    let world = world_of c.args.world.now in
    let turn = c.in-Ok.field-0 in
    let turns = subst (λ t. TurnsSource t c.args.source c.args.quota turn) c.terrain.ensures.exact c.in-Ok.ensures.turns in
    record {
      steps = record {
        fits = nearby-fits world c.args.alloc c.args.plan c.args.lists c.args.quota c.requires.on c.requires.first c.requires.some
            c.args.source turn c.requires.next turns;
        turn = nearby-turned world c.args.alloc c.args.plan c.args.lists c.args.quota c.requires.on c.requires.first c.requires.some
            c.args.source turn c.requires.next turns c.turned_to.result c.turned_to.ensures.turns;
      };
      leaves = λ found ends.
          absurd (nearby-unfound world c.args.alloc c.args.plan c.args.lists c.args.quota c.requires.on c.requires.first c.requires.some
          c.args.source turn c.requires.next turns c.turned_to.result c.turned_to.ensures.turns found ends);
    }
