use Rattle.overpass_graph.specs.Maps.{roads_of}
use Rattle.ride_bounds.specs.Customizing.{IsRideCustomization}
use Rattle.map_guides.proofs.guide_making.customized.Given as goal

abbrev pub invariant-steps : goal.invariant-steps
invariant-steps g l = IsRideCustomization (roads_of l.map) (g.F.FactsOf.links l.facts).facts l.hierarchy l.weights
