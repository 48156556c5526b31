-- The space stands on what was given, the search is one over it, and its limit stays.
use Rattle.std.proofs.Common.{◌≡◌, ◌-◌, length}
use Rattle.bike_space.specs.Kept.{task_of}
use Rattle.bike_space.specs.Tasks.{rules_of}
use Rattle.space_search.specs.Searches.{IsSearchOf}
use Rattle.space_search.specs.View.{view}
use Rattle.map_cases.proofs.space.woken.least_walk_woken.Given as goal

abbrev pub invariant-search : goal.invariant-search
invariant-search g l =
    record {
      terrain : l.space.terrain ≡ l.terrain;
      of : IsSearchOf (rules_of (task_of (g.G.TerrainOf.terrain l.space.terrain) l.space.kept)) l.search;
      limit : (view l.search).limit ≡ l.limit;
    }

abbrev pub decreases-search : goal.decreases-search
decreases-search g l = l.limit - length (view l.search).settled
