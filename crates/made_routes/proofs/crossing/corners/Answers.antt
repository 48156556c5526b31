use Rattle.std.proofs.Common.{ap}
use Rattle.route_http.specs.Seen.{circles_seen, places}
use Rattle.made_routes.proofs.HillLemmas.{request-is}
use Rattle.made_routes.proofs.crossing.corners.Goals as goal

pub returns : goal.returns
returns c =
    record {
      exact = request-is c.args.grid.now (places c.in_ok-waypoints.waypoints) (circles_seen c.new.result) c.new-2.result c.new-3.result
          c.new-4.result c.new-5.result
          c.in_ok-waypoints.ensures.exact (ap circles_seen c.new.ensures.value) c.new-2.ensures.value c.new-3.ensures.value c.new-4.ensures.value
          c.new-5.ensures.value;
    }
