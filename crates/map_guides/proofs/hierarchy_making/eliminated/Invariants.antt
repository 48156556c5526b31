use Rattle.overpass_graph.specs.Maps.{roads_of}
use Rattle.ride_bounds.specs.Hierarchies.{IsMapElimination}
use Rattle.map_guides.proofs.hierarchy_making.eliminated.Given as goal

abbrev pub invariant-steps : goal.invariant-steps
invariant-steps l = IsMapElimination (roads_of l.map) l.elimination
