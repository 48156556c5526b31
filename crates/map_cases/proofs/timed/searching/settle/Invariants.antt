-- The search is one over the space with what is kept of its bounds, and its limit stays.
use Rattle.std.proofs.Common.{◌≡◌, ◌-◌, length}
use Rattle.space_search.specs.Searches.{IsSearchOf}
use Rattle.space_search.specs.View.{view}
use Rattle.map_cases.proofs.timed.searching.settle.Given as goal

abbrev pub invariant-search : goal.invariant-search
invariant-search g l =
    record {
      of : IsSearchOf (g.S.Space.rules l.space) l.search;
      bounds : g.S.Space.AreBounds l.space l.bounds;
      limit : (view l.search).limit ≡ l.limit;
    }

abbrev pub decreases-search : goal.decreases-search
decreases-search g l = l.limit - length (view l.search).settled
