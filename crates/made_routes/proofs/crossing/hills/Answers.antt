use Rattle.grid_map.specs.Plan.{plan_of}
use Rattle.made_routes.proofs.HillLemmas.{hills-found, hills-refused, track-fits}
use Rattle.made_routes.proofs.crossing.hills.Goals as goal

pub told-requires : goal.told-requires
told-requires c = record { costs = track-fits c.in_ok-grid.grid c.in-Ok.track c.in-Ok.ensures.exact }

pub returns-in-Ok : goal.returns-in-Ok
returns-in-Ok c =
    record {
      exact = hills-found (plan_of c.args.seed c.args.w c.args.h) c.in_ok-grid.grid c.in-Ok.track c.told.result c.in_ok-grid.ensures.value
          c.in-Ok.ensures.exact c.told.ensures.cost c.told.ensures.nodes c.told.ensures.segments;
    }

pub returns : goal.returns
returns c =
    record {
      exact = hills-refused (plan_of c.args.seed c.args.w c.args.h) c.in_ok-grid.grid c.in-Err.error c.in_ok-grid.ensures.value
          c.in-Err.ensures.exact;
    }
