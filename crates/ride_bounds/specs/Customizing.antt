-- The weights of a map's hierarchy for a ride (this project's own rule).
use Rattle.std.specs.Prelude.{ℕ}
use Rattle.overpass_graph.specs.Roads.{Roads}
use Rattle.cost_model.specs.declared.facts.LinkFacts.{LinkFacts}
use Rattle.link_hierarchy.specs.Customizing.{IsCustomization}
use Rattle.link_hierarchy.specs.Hierarchies.{Carries, IsClosed}
use Rattle.link_hierarchy.specs.Topologies.{AreFor, Weights, edges_of}
use Rattle.link_hierarchy.specs.declared.limits.TheConstants.{FAR}
use Rattle.ride_bounds.specs.Arcs.{AreRideArcs, AreRideArcsTo, IsRideArc}
use Rattle.ride_bounds.specs.declared.hierarchy.MapHierarchy.{MapHierarchy}
use Rattle.ride_bounds.specs.declared.pricing.Pricing.{Pricing}
use Rattle.ride_bounds.specs.declared.taking.Taking.{Taking}
use Rattle.ride_bounds.specs.declared.ride_customization.RideCustomization.{RideCustomization}
use Rattle.ride_bounds.specs.declared.ride_customization.RideCustomization.TheVariants as stage

-- weights that have the least sums of a ride's turns
pub record AreRideWeights (roads : Roads) (facts : ℕ → LinkFacts) (hierarchy : MapHierarchy) (weights : Weights) : Type 0 where
  pub fits : AreFor hierarchy.topology weights
  pub closed : IsClosed (edges_of FAR hierarchy.topology weights)
  pub carries : Carries FAR (IsRideArc roads facts hierarchy.order) (edges_of FAR hierarchy.topology weights)

-- ---- While they are made

-- the first turns have their prices
abbrev pub IsPricing : Roads → (ℕ → LinkFacts) → MapHierarchy → Pricing → Type 0
IsPricing roads facts hierarchy it = AreRideArcsTo roads facts hierarchy.order hierarchy.turns.items it.next it.priced.items

-- all have, and the weights come to have their sums
pub record IsTaking (roads : Roads) (facts : ℕ → LinkFacts) (hierarchy : MapHierarchy) (it : Taking) : Type 0 where
  pub priced : AreRideArcs roads facts hierarchy.order it.priced.items
  pub made : IsCustomization hierarchy.topology it.priced.items it.made

-- how far the weights of a ride are
abbrev pub IsRideCustomization : Roads → (ℕ → LinkFacts) → MapHierarchy → RideCustomization → Type 0
IsRideCustomization roads facts hierarchy (stage.Pricing it) = IsPricing roads facts hierarchy it
IsRideCustomization roads facts hierarchy (stage.Taking it) = IsTaking roads facts hierarchy it
