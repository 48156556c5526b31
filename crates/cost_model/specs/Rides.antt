-- What a rider goes by: the terrain that a profile is bound to, the setting of a request on it, the ride that
-- comes of both, its legs, and the walks that it permits (this project's own rule).
use Rattle.std.specs.Prelude.{ℕ, Bool, List}
use Rattle.overpass_graph.specs.Maps.{MapValue, roads_of, forbids_of}
use Rattle.overpass_graph.specs.Roads.{Roads}
use Rattle.overpass_graph.specs.Walks.{IsWalkBy, MayFollow}
use Rattle.cost_model.specs.Facts.{Links}
use Rattle.cost_model.specs.OpenLinks.{forbids_where, open_by}
use Rattle.cost_model.specs.Prices.{Prices}
use Rattle.cost_model.specs.declared.facts.LinkFacts.{LinkFacts}

-- ---- What it comes from

-- a terrain: a map, the facts of its links and the prices of a profile
pub record Terrain : Type 0 where
  pub map : MapValue
  pub links : Links
  pub prices : Prices

-- a setting: a terrain, whether each of its links is cut by a circle, and whether turn restrictions count
pub record Setting : Type 0 where
  pub terrain : Terrain
  pub cut : List Bool
  pub turns : Bool

-- ---- Rides and legs

-- what a rider goes by: the roads, which links are open, which turns are forbidden, and what links cost
pub record Ride : Type 0 where
  pub roads : Roads
  pub is_open : ℕ → Bool
  -- the second link is forbidden after the first
  pub forbids : ℕ → ℕ → Bool
  pub facts : ℕ → LinkFacts
  pub prices : Prices

-- a leg of a ride, from a node to a node
pub record Leg : Type 0 where
  pub ride : Ride
  pub start : ℕ
  pub target : ℕ

-- the ride in a setting
abbrev pub ride_of : Setting → Ride
ride_of setting = record {
  roads = roads_of setting.terrain.map;
  is_open = open_by setting.terrain.links.facts setting.cut;
  forbids = forbids_where setting.turns (forbids_of setting.terrain.map);
  facts = setting.terrain.links.facts;
  prices = setting.terrain.prices;
}

-- the leg between two nodes in a setting
abbrev pub leg_between : (setting : Setting) (start target : ℕ) → Leg
leg_between setting start target = record { ride = ride_of setting; start = start; target = target }

-- ---- Walks

-- a list of links that a rider may take from a node to a node
abbrev pub IsPermittedWalk : (ride : Ride) (from to : ℕ) (links : List ℕ) → Type 0
IsPermittedWalk ride = IsWalkBy ride.roads ride.is_open (MayFollow ride.roads ride.forbids)
