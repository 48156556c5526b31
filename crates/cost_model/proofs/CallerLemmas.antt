-- What crates above may cite of rates for a metre, the factor of the distance, the parts of a link and their sums, the
-- low form of the price, walks, modes and covering.
pub use Rattle.cost_model.proofs.NumberLemmas.{per_metre-low, per_metre-grows, per_metre-high, sum_fits}
pub use Rattle.cost_model.proofs.FactorLemmas.{factor-flat, factor-within, moves-with_weights, least-factor, least-distance}
pub use Rattle.cost_model.proofs.PaidLemmas.{empty-held, held-after, turn-small, initial-small, parts-hold}
pub use Rattle.cost_model.proofs.WalkLemmas.{goes-on, sum-same}
pub use Rattle.cost_model.proofs.ModeLemmas.{modes-allow}
pub use Rattle.cost_model.proofs.CostLemmas.{paid-whole, parts_after-hold, ranked-paid, cost-whole, cost-below}
pub use Rattle.cost_model.proofs.LeastLemmas.{least_factor-cost, least_distance-low, least_distance-high, least_price-whole, least_price-below, least_price-least}
pub use Rattle.cost_model.proofs.CoveringLemmas.{label-itself, label-through, label-cheaper, label-flat, supersedes-covers, held-pair, rate-buffer, distance-kept, covers-entered, covers-carried}
