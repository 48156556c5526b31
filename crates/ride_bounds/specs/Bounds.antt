-- A lower bound of what a ride still has to pay, by link (this project's own rule).
use Rattle.std.specs.Prelude.{◌≡◌, ℕ, ◌+◌, ◌*◌, ◌<◌, ◌≤◌, ◌^◌, true, List, Option, Some, None}
use Rattle.overpass_graph.specs.Roads.{Roads, places_below}
use Rattle.cost_model.specs.OpenLinks.{is_passable}
use Rattle.cost_model.specs.declared.facts.LinkFacts.{LinkFacts}
use Rattle.link_hierarchy.specs.LeastSums.{least_sum_of}
use Rattle.link_hierarchy.specs.Potentials.{ArePotentials}
use Rattle.link_hierarchy.specs.Topologies.{Weights}
use Rattle.ride_bounds.specs.Entries.{least_entry}
use Rattle.link_order.specs.Orders.{Order, link_at, place_of}
use Rattle.ride_bounds.specs.Turns.{LeadsOn}
use Rattle.ride_bounds.specs.declared.hierarchy.MapHierarchy.{MapHierarchy}
use Rattle.ride_bounds.specs.declared.leg_bound.LegBound.{LegBound}

-- a lower bound by link for a target: 0 where a link arrives there; before a turn no more than what that costs at least and the
-- bound behind it; none behind a turn where there is none before it; and small
pub record IsLinkBound (roads : Roads) (facts : ℕ → LinkFacts) (target : ℕ) (bound : ℕ → Option ℕ) : Type 0 where
  pub arrived : (link : ℕ) → link < roads.links → roads.to link ≡ target → bound link ≡ Some 0
  pub step : (a b before behind : ℕ) → a < roads.links → b < roads.links → LeadsOn roads a b → is_passable (facts b) ≡ true →
      bound a ≡ Some before → bound b ≡ Some behind → before ≤ least_entry (facts a) (facts b) + behind
  pub none : (a b : ℕ) → a < roads.links → b < roads.links → LeadsOn roads a b → is_passable (facts b) ≡ true →
      bound a ≡ None → bound b ≡ None
  pub small : (link low : ℕ) → link < roads.links → bound link ≡ Some low → low < 2 ^ 45

-- the places of the links that arrive at a node, ascending
abbrev pub targets_of : Order → Roads → ℕ → List ℕ
targets_of order roads target = places_below (λ place. roads.to (link_at order place)) target roads.links

-- a sum of weights in millionths
abbrev pub millionths_of : Option ℕ → Option ℕ
millionths_of None = None
millionths_of (Some sum) = Some (sum * 1000)

-- the bound of a link by a hierarchy and its weights
unfoldable pub bound_of : MapHierarchy → Weights → Roads → ℕ → ℕ → Option ℕ
bound_of hierarchy weights roads target link =
    millionths_of (least_sum_of hierarchy.topology weights (targets_of hierarchy.order roads target) (place_of hierarchy.order link))

-- what is found so far of the bounds for a target
pub record IsLegBound (roads : Roads) (hierarchy : MapHierarchy) (weights : Weights) (target : ℕ) (leg : LegBound) : Type 0 where
  pub targets : leg.found.targets.items ≡ targets_of hierarchy.order roads target
  pub found : ArePotentials hierarchy.topology weights leg.found

-- ---- The next place of a link that arrives at a node

-- no link that arrives at a node has a place from one on before this one, where one does, unless this is behind all places
pub record IsNext (roads : Roads) (order : Order) (target from next : ℕ) : Type 0 where
  pub all : (place : ℕ) → from ≤ place → place < roads.links → roads.to (link_at order place) ≡ target → next ≤ place
  pub arrives : next < 0xffff_ffff → (from ≤ next) × (next < roads.links) × (roads.to (link_at order next) ≡ target)

-- the same of the ways back of the first so many links of a list
pub record IsNextOf (roads : Roads) (order : Order) (target from count next : ℕ) (back : ℕ → ℕ) : Type 0 where
  pub all : (k : ℕ) → k < count → from ≤ place_of order (back k) → next ≤ place_of order (back k)
  pub arrives : next < 0xffff_ffff → (from ≤ next) × (next < roads.links) × (roads.to (link_at order next) ≡ target)
