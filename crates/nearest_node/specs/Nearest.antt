-- The node of a map to which a waypoint is moved (this project's own rule).
use Rattle.std.specs.Prelude.{◌≡◌, ℕ, ◌<◌, ◌≤◌, ◌⊎◌, Bool, Option, Some, None}
use Rattle.geo_int.specs.Place.{Place}
use Rattle.geo_int.specs.Arrow.{length_between}
use Rattle.overpass_graph.specs.Maps.{MapValue, node_at}
use Rattle.overpass_graph.specs.Roads.{Roads}
use Rattle.overpass_graph.specs.Walks.{IsOpenLink}

-- where a node of a map lies
abbrev pub place_at : MapValue → ℕ → Place
place_at map node = (node_at map.nodes node).content

-- a walk may begin or end at a node: some open link leaves or reaches it
pub record IsEnd (roads : Roads) (is_open : ℕ → Bool) (node : ℕ) : Type 0 where
  pub link : ℕ
  pub lets : IsOpenLink roads is_open link
  pub ends : (roads.from link ≡ node) ⊎ (roads.to link ≡ node)

-- how far a node lies from a place, in millimetres
abbrev pub distance_to : (places : ℕ → Place) (at : Place) (node : ℕ) → ℕ
distance_to places at node = length_between at (places node)

-- a node is the nearest to a place among those that a test lets through, and of those as near the first
pub record IsNearest (count : ℕ) (places : ℕ → Place) (may : ℕ → Type 0) (at : Place) (node : ℕ) :
    Type 0 where
  pub in_range : node < count
  pub let_through : may node
  pub nearest : (other : ℕ) → other < count → may other →
      distance_to places at node ≤ distance_to places at other
  pub first : (other : ℕ) → other < count → may other →
      distance_to places at other ≡ distance_to places at node → node ≤ other

-- the farthest that a waypoint is moved, in millimetres
abbrev pub farthest_move : ℕ
farthest_move = 250000

-- the node to which a waypoint at a place is moved: the nearest where it lies near enough, none where no node
-- does
abbrev pub IsMovedTo : (count : ℕ) (places : ℕ → Place) (may : ℕ → Type 0) (at : Place) → Option ℕ → Type 0
IsMovedTo count places may at (Some node) = IsNearest count places may at node ×
    (distance_to places at node ≤ farthest_move)
IsMovedTo count places may at None = (node : ℕ) → node < count → may node →
    farthest_move < distance_to places at node
