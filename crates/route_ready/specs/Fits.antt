-- A profile that is ready fits a world, whatever guide it has (this project's own rule).
use Rattle.std.specs.Prelude.{◌≡◌, length}
use Rattle.cost_model.specs.Rides.{Terrain}
use Rattle.overpass_graph.specs.Maps.{MapValue}
use Rattle.ride_bounds.specs.Guides.{IsGuided}
use Rattle.route_ready.specs.declared.ready.Ready.{Ready}
use Rattle.way_class.specs.Links.{links_of}

-- a map, with the facts and the prices of a profile that is ready
abbrev pub ready_terrain : MapValue → Ready → Terrain
ready_terrain map ready = record { map = map; links = links_of ready.bound.value; prices = ready.rates }

-- it has facts for each link of a map, and its guide, where it has one, is of that map and those facts
pub record FitsMap (map : MapValue) (ready : Ready) : Type 0 where
  pub counted : (links_of ready.bound.value).count ≡ length map.links
  pub guided : IsGuided (ready_terrain map ready) ready.guide

-- another has the same facts, prices and turn restrictions
pub record HasSameTerms (ready other : Ready) : Type 0 where
  pub bound : other.bound.value ≡ ready.bound.value
  pub rates : other.rates ≡ ready.rates
  pub turns : other.turns ≡ ready.turns
