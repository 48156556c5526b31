use Rattle.profile_text.specs.Expr.{sections_in}
use Rattle.route_ready.specs.World.{world_of}
use Rattle.made_routes.proofs.HillLemmas.{hills-told}
use Rattle.made_routes.proofs.crossing.crossing_in.Goals as goal

pub returns : goal.returns
returns c =
    record {
      exact = λ is.
          hills-told (world_of c.args.world.now) (sections_in c.in_ok-profile.profile) c.args.grid.now c.crossing_by.result
          c.in_ok-profile.ensures.exact is
          c.crossing_by.ensures.exact;
    }
