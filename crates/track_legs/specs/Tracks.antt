-- When a list of nodes and legs is a track (this project's own rule).
use Rattle.std.specs.Prelude.{◌≡◌, ℕ, suc, ◌<◌, List, [], length, get_or}
use Rattle.cost_model.specs.Rides.{IsPermittedWalk, Ride}
use Rattle.cost_model.specs.Walks.{walk_cost}
use Rattle.track_legs.specs.declared.track.Leg.{Leg}
use Rattle.track_legs.specs.declared.track.Track.{Track}

-- no leg
abbrev pub no_leg : Leg
no_leg = record { links = []; cost = 0; rank = 0 }

-- the node of a waypoint
abbrev pub node_at : Track → ℕ → ℕ
node_at track waypoint = get_or track.nodes waypoint 0

-- the leg of a number: it leaves the waypoint of this number
abbrev pub leg_at : Track → ℕ → Leg
leg_at track number = get_or track.legs number no_leg

-- a walk that a rider may take from a node to another, and that costs so much
pub record IsWalkAt (ride : Ride) (a b : ℕ) (links : List ℕ) (cost : ℕ) : Type 0 where
  pub walk : IsPermittedWalk ride a b links
  pub costs : walk_cost ride.prices ride.facts links ≡ cost

-- a leg between two nodes: a walk that the rider may take from the one to the other, with what it costs
pub record IsLegBetween (ride : Ride) (a b : ℕ) (leg : Leg) : Type 0 where
  pub walk : IsPermittedWalk ride a b leg.links
  pub cost : walk_cost ride.prices ride.facts leg.links ≡ leg.cost

-- a track: a leg between each two waypoints that follow each other, each a walk of its own
pub record IsTrack (ride : Ride) (track : Track) : Type 0 where
  pub one_fewer : suc (length track.legs) ≡ length track.nodes
  pub legs : (k : ℕ) → k < length track.legs →
      IsLegBetween ride (node_at track k) (node_at track (suc k)) (leg_at track k)
