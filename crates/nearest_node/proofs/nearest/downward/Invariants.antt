use Rattle.std.proofs.Common.{◌≤◌, length}
use Rattle.geo_int.specs.Spot.{place_of}
use Rattle.overpass_graph.specs.Maps.{roads_of}
use Rattle.nearest_node.specs.Best.{IsBest, IsFirstOf}
use Rattle.nearest_node.specs.Nearest.{IsEnd, place_at}
use Rattle.nearest_node.proofs.nearest.downward.Given as goal

abbrev pub invariant-keys : goal.invariant-keys
invariant-keys g l = record {
  within : l.place ≤ l.start;
  best : IsBest (length l.map.nodes) (place_at l.map) (IsEnd (roads_of l.map) (g.O.OpenLinks.opens l.passages).is_open) (place_of l.at)
      l.best;
  better : l.best ≤ l.fn.best;
  first : IsFirstOf (place_at l.map) (IsEnd (roads_of l.map) (g.O.OpenLinks.opens l.passages).is_open) (place_of l.at) l.keys l.place
      l.start l.best;
}

abbrev pub decreases-keys : goal.decreases-keys
decreases-keys g l = l.place
