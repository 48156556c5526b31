use Rattle.std.proofs.Common.{get_or}
use Rattle.overpass_graph.specs.Maps.{roads_of}
use Rattle.overpass_graph.specs.Roads.{out_links, twin_of}
use Rattle.ride_bounds.specs.Bounds.{IsNextOf}
use Rattle.ride_bounds.proofs.targets.next_place.Given as goal

abbrev pub invariant-links : goal.invariant-links
invariant-links l = IsNextOf (roads_of l.map) l.order l.target l.from l.number l.next
    (λ k. twin_of (get_or (out_links (roads_of l.map) l.target) k 0))
