-- What crates above may cite of lower bounds by link.
use Rattle.std.proofs.Common.{◌≡◌, ℕ, ◌+◌, ◌<◌, ◌≤◌, Bool, true, Option, Some, arith}
use Rattle.elev_buffer.specs.declared.labels.Pair.{Pair}
use Rattle.overpass_graph.specs.Roads.{Roads}
use Rattle.cost_model.specs.Facts.{AreFacts}
use Rattle.cost_model.specs.OpenLinks.{is_passable}
use Rattle.cost_model.specs.Parts.{IsHeld, entry_cost}
use Rattle.cost_model.specs.Prices.{IsPrices, Prices}
use Rattle.cost_model.specs.declared.facts.LinkFacts.{LinkFacts}
use Rattle.ride_bounds.specs.Bounds.{IsLinkBound}
use Rattle.ride_bounds.specs.Turns.{LeadsOn}
use Rattle.ride_bounds.proofs.EntryLemmas.{entry-least}
pub use Rattle.ride_bounds.proofs.EntryLemmas.{entry-least, weight-below}
pub use Rattle.ride_bounds.proofs.BoundLemmas.{least-turns, link-bound}

-- before a turn the bound is no more than what it costs to enter the link, with whatever buffers, and the bound behind it
pub bound-paid :
    (roads : Roads) (facts : ℕ → LinkFacts) (target : ℕ) (bound : ℕ → Option ℕ) → IsLinkBound roads facts target bound →
    (p : Prices) (used : Bool) (pair : Pair) (a b before behind : ℕ) → IsPrices p → AreFacts (facts b) → IsHeld p pair → a < roads.links →
    b < roads.links → LeadsOn roads a b → is_passable (facts b) ≡ true → bound a ≡ Some before → bound b ≡ Some behind →
    before ≤ entry_cost p used (Some (facts a)) (facts b) pair + behind
bound-paid roads facts target bound is p used pair a b before behind prices f held a_in b_in leads passable before_is behind_is =
    let low = is.step a b before behind a_in b_in leads passable before_is behind_is in
    omega (arith, low, entry-least p used (facts a) (facts b) pair prices f held)
