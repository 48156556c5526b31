-- The turns of a map at the prices of a ride (this project's own rule).
use Rattle.std.specs.Prelude.{◌≡◌, ℕ, ◌<◌, ◌≤◌, true, List, length, get_or}
use Rattle.overpass_graph.specs.Roads.{Roads}
use Rattle.cost_model.specs.OpenLinks.{is_passable}
use Rattle.cost_model.specs.declared.facts.LinkFacts.{LinkFacts}
use Rattle.link_hierarchy.specs.Arcs.{arc_from, arcs_of}
use Rattle.link_hierarchy.specs.declared.arcs.Arc.{Arc}
use Rattle.ride_bounds.specs.Entries.{least_entry, weight_of}
use Rattle.link_order.specs.Orders.{Order, link_at}
use Rattle.ride_bounds.specs.Turns.{IsTurn}

-- the weight of a turn between two places
abbrev pub turn_weight : (facts : ℕ → LinkFacts) (order : Order) (x y : ℕ) → ℕ
turn_weight facts order x y = weight_of (least_entry (facts (link_at order x)) (facts (link_at order y)))

-- a turn into a link that its facts let a rider take, at the weight of what it costs at least
pub record IsRideArc (roads : Roads) (facts : ℕ → LinkFacts) (order : Order) (x y price : ℕ) : Type 0 where
  pub turn : IsTurn roads order x y
  pub passable : is_passable (facts (link_at order y)) ≡ true
  pub is : price ≡ turn_weight facts order x y

-- a list has those turns, and nothing else
pub record AreRideArcs (roads : Roads) (facts : ℕ → LinkFacts) (order : Order) (priced : List Arc) : Type 0 where
  pub only : (x y price : ℕ) → arcs_of priced x y price → IsRideArc roads facts order x y price
  pub all : (x y price : ℕ) → IsRideArc roads facts order x y price → arcs_of priced x y price

-- a list has those of the first so many turns
pub record AreRideArcsTo (roads : Roads) (facts : ℕ → LinkFacts) (order : Order) (turns : List Arc) (count : ℕ) (priced : List Arc) : Type 0 where
  pub within : count ≤ length turns
  pub only : (x y price : ℕ) → arcs_of priced x y price → IsRideArc roads facts order x y price
  pub all : (number x y price : ℕ) → number < count → get_or turns number (arc_from x y 0) ≡ arc_from x y 0 →
      IsRideArc roads facts order x y price → arcs_of priced x y price
