-- A search on a leg that is lawful: its numbers keep their bounds, and what it takes for what still has to be paid
-- is no more than that (this project's own rule).
use Rattle.std.specs.Prelude.{◌≡◌, ℕ, ◌+◌, ◌<◌, ◌≤◌, ◌^◌, IsTrue, Some, None}
use Rattle.cost_model.specs.Facts.{AreFacts}
use Rattle.cost_model.specs.Parts.{IsHeld}
use Rattle.cost_model.specs.Prices.{IsPrices}
use Rattle.elev_buffer.specs.declared.labels.Pair.{Pair}
use Rattle.overpass_graph.specs.Roads.{IsRoads}
use Rattle.cost_model.specs.Rides.{Leg}
use Rattle.bike_space.specs.Remaining.{IsRemaining}
use Rattle.bike_space.specs.Tasks.{Task, may_take, price_of}

-- a walk of the leg may go on by a link after another
pub record MayGoOn (leg : Leg) (last link : ℕ) : Type 0 where
  pub last_in : last < leg.ride.roads.links
  pub link_in : link < leg.ride.roads.links
  pub leaves : leg.ride.roads.from link ≡ leg.ride.roads.to last
  pub taken : IsTrue (may_take leg last link)

-- a lower bound of what still has to be paid behind each link: it is 0 where the target is reached, falls along a
-- link by no more than it costs to enter that, with whatever buffers, and where there is none behind a link there
-- is none behind those that follow
pub record IsBound (task : Task) : Type 0 where
  pub small : (link low : ℕ) → link < task.leg.ride.roads.links → task.low link ≡ Some low → low < 2 ^ 126
  pub target : (link : ℕ) → link < task.leg.ride.roads.links → task.leg.ride.roads.to link ≡ task.leg.target →
      task.low link ≡ Some 0
  pub falls : (last link before after : ℕ) (pair : Pair) → MayGoOn task.leg last link → IsHeld task.leg.ride.prices pair →
      task.low last ≡ Some before → task.low link ≡ Some after →
      before ≤ price_of task (Some (task.leg.ride.facts last)) link pair + after
  pub stays : (last link : ℕ) → MayGoOn task.leg last link → task.low last ≡ None → task.low link ≡ None

-- a lawful search on a leg; without a radius its bound is all that still has to be paid at least
pub record IsTask (task : Task) : Type 0 where
  pub roads : IsRoads task.leg.ride.roads
  pub facts : (link : ℕ) → link < task.leg.ride.roads.links → AreFacts (task.leg.ride.facts link)
  pub prices : IsPrices task.leg.ride.prices
  pub start_in : task.leg.start < task.leg.ride.roads.nodes
  pub target_in : task.leg.target < task.leg.ride.roads.nodes
  pub bound : IsBound task
  pub whole : task.radius ≡ None → (link : ℕ) → link < task.leg.ride.roads.links →
      IsRemaining task.leg task.used (task.leg.ride.roads.to link) (task.low link)
