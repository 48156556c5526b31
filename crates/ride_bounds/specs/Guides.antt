-- A hierarchy with the weights of a ride, as what bounds a search (this project's own rule).
use Rattle.std.specs.Prelude.{ℕ, Option, Some, None}
use Rattle.std.specs.declared.alloc.Global.{Global}
use Rattle.std.specs.declared.rc.Rc.{Rc}
use Rattle.overpass_graph.specs.Maps.{roads_of}
use Rattle.cost_model.specs.Rides.{Terrain}
use Rattle.ride_bounds.specs.Bounds.{IsLegBound, bound_of}
use Rattle.ride_bounds.specs.Customizing.{AreRideWeights}
use Rattle.ride_bounds.specs.Hierarchies.{IsMapHierarchy}
use Rattle.ride_bounds.specs.declared.guide.Guide.{Guide}
use Rattle.ride_bounds.specs.declared.leg_bound.LegBound.{LegBound}

-- a guide of a terrain: its hierarchy is that of the map, and its weights are those of what the links cost
pub record IsGuide (terrain : Terrain) (guide : Guide) : Type 0 where
  pub hierarchy : IsMapHierarchy (roads_of terrain.map) guide.hierarchy.value
  pub weights : AreRideWeights (roads_of terrain.map) terrain.links.facts guide.hierarchy.value guide.weights

-- a guide of a terrain, where there is one
abbrev pub IsGuided : Terrain → Option (Rc Guide Global) → Type 0
IsGuided terrain None = Unit {0}
IsGuided terrain (Some guide) = IsGuide terrain guide.value

-- what a ride still has to pay at least to a node behind a link, by a guide
abbrev pub low_by : Terrain → Guide → ℕ → ℕ → Option ℕ
low_by terrain guide target link = bound_of guide.hierarchy.value guide.weights (roads_of terrain.map) target link

-- what is found so far of the bounds by a guide, for a target
abbrev pub IsBoundBy : (terrain : Terrain) (guide : Guide) (target : ℕ) → LegBound → Type 0
IsBoundBy terrain guide target bound = IsLegBound (roads_of terrain.map) guide.hierarchy.value guide.weights target bound
