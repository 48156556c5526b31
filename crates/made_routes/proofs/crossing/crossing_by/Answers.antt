use Rattle.std.proofs.Common.{Ok}
use Rattle.profile_text.specs.Expr.{sections_in}
use Rattle.route_http.specs.Seen.{asked}
use Rattle.route_ready.specs.World.{world_of}
use Rattle.made_routes.proofs.HillLemmas.{answers-corners, corners-within, refusal-corners}
use Rattle.made_routes.proofs.crossing.crossing_by.Goals as goal

pub route-requires : goal.route-requires
route-requires c = record { within = corners-within c.args.grid.now (asked c.in_ok-request.request) c.in_ok-request.ensures.exact }

pub returns-in-Ok : goal.returns-in-Ok
returns-in-Ok c =
    record {
      exact = answers-corners (world_of c.args.world.now) (sections_in c.args.profile.now) c.args.grid.now (asked c.in_ok-request.request)
          (Ok c.in-Ok.track)
          c.in_ok-request.ensures.exact c.in-Ok.ensures.exact;
    }

pub returns-in-Err : goal.returns-in-Err
returns-in-Err c =
    record {
      exact = refusal-corners (world_of c.args.world.now) (sections_in c.args.profile.now) c.args.grid.now (asked c.in_ok-request.request)
          c.in-Err.error
          c.of_route.result c.in_ok-request.ensures.exact c.of_route.ensures.exact c.in-Err.ensures.exact;
    }
