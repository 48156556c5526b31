-- At the start the space is the one that was given; at the end of the search its outcome is told in walks.
use Rattle.std.proofs.Common.{subst}
use Rattle.bike_space.specs.Kept.{task_of}
use Rattle.bike_space.specs.Tasks.{rules_of}
use Rattle.item_list.specs.Turns.{Says}
use Rattle.space_search.specs.Turns.{EndsSearch, IsClosedSoFar}
use Rattle.space_search.specs.View.{view}
use Rattle.map_cases.proofs.space.woken.least_walk_woken.Goals as goal

pub search-init : goal.search-init
search-init g c =
    let space = c.args.space in
    record {
      terrain = c.requires.terrain;
      of = c.new-search.ensures.of (rules_of (task_of (g.G.TerrainOf.terrain space.terrain) space.kept));
      limit = c.new-search.ensures.limit;
    }

pub walk_outcome-requires : goal.walk_outcome-requires
walk_outcome-requires g c =
    let space = c.search.space in
    let rules = rules_of (task_of (g.G.TerrainOf.terrain space.terrain) space.kept) in
    let after = view c.turn.new.self in
    let turn = c.in_ok-turn.ensures in
    let ends = subst (Says (λ _. IsClosedSoFar rules after) (EndsSearch rules after)) c.in-Done.is turn.ends in
    record { answers = (_, c.in_ok-outcome-in-Done.ensures.answers rules turn.of ends) }
