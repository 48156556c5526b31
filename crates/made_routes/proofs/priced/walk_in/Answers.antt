use Rattle.profile_text.specs.Expr.{sections_in}
use Rattle.route_ready.specs.World.{world_of}
use Rattle.made_routes.proofs.PricedLemmas.{links-there, ready-told, refusal-told}
use Rattle.made_routes.proofs.priced.walk_in.Goals as goal

pub walk_by-requires-clause-links : goal.walk_by-requires-clause-links
walk_by-requires-clause-links c =
    links-there c.args.grid.now (world_of c.args.world.now) (sections_in c.args.profile.now) _ c.in-Ok.ready c.requires.links
    c.in-Ok.ensures.exact

pub returns-in-Ok : goal.returns-in-Ok
returns-in-Ok c =
    record {
      exact = ready-told c.args.grid.now c.args.from c.args.to (world_of c.args.world.now) (sections_in c.args.profile.now) _
          c.new-overrides.ensures.value c.requires.links
          c.in-Ok.ready c.walk_by.result c.in-Ok.ensures.exact c.walk_by.ensures.exact;
    }

pub returns : goal.returns
returns c =
    record {
      exact = refusal-told c.args.grid.now c.args.from c.args.to (world_of c.args.world.now) (sections_in c.args.profile.now) _
          c.new-overrides.ensures.value c.requires.links c.in-Err.error c.of_route.result c.of_route.ensures.exact c.in-Err.ensures.exact;
    }
