-- Which link a walk may take next, where it stands.
use Rattle.std.specs.Prelude.{◌≡◌, ℕ, ◌<◌, Bool, Option, Some}
use Rattle.cost_model.specs.Rides.{Ride}
use Rattle.overpass_graph.specs.Roads.{Roads}
use Rattle.overpass_graph.specs.Walks.{IsOpenLink, MayFollow}

-- a link may be taken at a node: it is open and leaves the node
pub record MayLeave (roads : Roads) (is_open : ℕ → Bool) (node link : ℕ) : Type 0 where
  pub opens : IsOpenLink roads is_open link
  pub leaves : roads.from link ≡ node

-- a link is that by which a walk reached a node
pub record HasReached (roads : Roads) (node link : ℕ) : Type 0 where
  pub in_range : link < roads.links
  pub arrives : roads.to link ≡ node

-- a link may come next where a walk stands at a node, after its last link if it has one
pub record MayComeNext (ride : Ride) (node : ℕ) (last : Option ℕ) (link : ℕ) : Type 0 where
  pub leaves : MayLeave ride.roads ride.is_open node link
  pub follows : (before : ℕ) → last ≡ Some before → MayFollow ride.roads ride.forbids before link
