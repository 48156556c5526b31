use Rattle.profile_text.specs.Expr.{sections_in}
use Rattle.route_ready.specs.World.{world_of}
use Rattle.made_routes.specs.Walks.{WalkQuestion}
use Rattle.made_routes.proofs.PricedLemmas.{none-there, walk-made}
use Rattle.made_routes.proofs.priced.walk_by_profile.Goals as goal

pub returns : goal.returns
returns c =
    let question : WalkQuestion = record {
      plan = c.args.grid.now;
      from = c.args.from;
      to = c.args.to;
      table = c.args.table;
      sections = sections_in c.args.profile.now;
    } in
    record {
      exact = walk-made question c.new.result (world_of c.in_ok-world.world) c.walk_in.result (none-there c.new.result c.new.ensures.empty)
          c.in_ok-world.ensures.exact c.walk_in.ensures.exact;
    }

pub walk_in-requires-clause-links : goal.walk_in-requires-clause-links
walk_in-requires-clause-links c = c.in_ok-world.ensures.exact.grid_is
