use Rattle.std.proofs.Common.{◌≡◌, ◌≤◌, ◌-◌, length}
use Rattle.overpass_graph.specs.Maps.{roads_of}
use Rattle.overpass_graph.specs.Roads.{places_below}
use Rattle.ride_bounds.specs.Bounds.{IsNext}
use Rattle.link_order.specs.Orders.{link_at}
use Rattle.ride_bounds.proofs.targets.targets.Given as goal

abbrev pub invariant-targets : goal.invariant-targets
invariant-targets l = record {
  made : l.made.items ≡ places_below (λ place. (roads_of l.map).to (link_at l.order place)) l.target l.from;
  within : l.from ≤ length l.map.links;
  next : IsNext (roads_of l.map) l.order l.target l.from l.next;
}

abbrev pub decreases-targets : goal.decreases-targets
decreases-targets l = length l.map.links - l.from
