-- The low form of what it costs to enter a link.
use Rattle.std.proofs.Common.{◌≡◌, ◌≤◌, ◌<◌, ◌^◌, ℤ, pos, ◌+ℤ◌, ◌-ℤ◌, ◌≤ℤ◌, Bool, true, false, Option, unsigned_abs, SFits, w64, refl, arith}
use Rattle.std.specs.Int.{int_max, int_min}
use Rattle.std.proofs.lemmas.Int.{ints, clamps, fits_signed_from_abs}
use Rattle.elev_buffer.specs.declared.labels.Pair.{Pair}
use Rattle.cost_model.specs.Facts.{IsCost, AreFacts}
use Rattle.cost_model.specs.Parts.{parts_after, ranked, sum_of, parts_with, counted, entry_cost, least_factor, least_distance, least_price, IsHeld}
use Rattle.cost_model.specs.Prices.{Prices, IsPrices}
use Rattle.cost_model.specs.declared.facts.LinkFacts.{LinkFacts}
use Rattle.cost_model.specs.declared.parts.Parts.{Parts}
use Rattle.cost_model.proofs.NumberLemmas.{per_metre-low, per_metre-high}
use Rattle.cost_model.proofs.CostLemmas.{parts_after-hold, cost-whole}

-- the numbers on the way to the low form of a factor
pub record LeastFits (cost down up : ℤ) : Type 0 where
  pub costs : SFits w64 cost × SFits w64 down × SFits w64 up
  pub falls : SFits w64 (down -ℤ cost)
  pub climbs : SFits w64 (up -ℤ cost)
  pub fall : SFits w64 (int_min (down -ℤ cost) (pos 0))
  pub climb : SFits w64 (int_min (up -ℤ cost) (pos 0))
  pub one : SFits w64 (cost +ℤ int_min (down -ℤ cost) (pos 0))
  pub both : SFits w64 (cost +ℤ int_min (down -ℤ cost) (pos 0) +ℤ int_min (up -ℤ cost) (pos 0))

-- fit
pub least_fits : (cost down up : ℤ) → IsCost cost → IsCost down → IsCost up → LeastFits cost down up
least_fits cost down up c d u =
    let cl = c.low in let ch = c.high in let dl = d.low in let dh = d.high in let ul = u.low in let uh = u.high in
    record {
      costs = (
        fits_signed_from_abs w64 _ (omega (arith, ints)),
        fits_signed_from_abs w64 _ (omega (arith, ints)),
        fits_signed_from_abs w64 _ (omega (arith, ints)),
      );
      falls = fits_signed_from_abs w64 _ (omega (arith, ints));
      climbs = fits_signed_from_abs w64 _ (omega (arith, ints));
      fall = fits_signed_from_abs w64 _ (omega (arith, ints, clamps));
      climb = fits_signed_from_abs w64 _ (omega (arith, ints, clamps));
      one = fits_signed_from_abs w64 _ (omega (arith, ints, clamps));
      both = fits_signed_from_abs w64 _ (omega (arith, ints, clamps));
    }

-- what is computed is the low form
pub least_factor-is : (facts : LinkFacts) →
    int_max (facts.costfactor +ℤ int_min (facts.downfactor -ℤ facts.costfactor) (pos 0)
    +ℤ int_min (facts.upfactor -ℤ facts.costfactor) (pos 0)) (pos 0) ≡ least_factor facts
unfolding least_factor
least_factor-is facts = omega (arith, ints, clamps)

-- the low form of a factor is a cost
pub least_factor-cost : (facts : LinkFacts) → AreFacts facts → IsCost (least_factor facts)
unfolding least_factor
least_factor-cost facts f =
    let low = f.costfactor.low in let high = f.costfactor.high in
    record { low = omega (arith, ints, clamps); high = omega (arith, ints, clamps) }

-- the low form of a distance part is at least 0
pub least_distance-low : (facts : LinkFacts) → AreFacts facts → pos 0 ≤ℤ least_distance facts
least_distance-low facts f = per_metre-low facts.arrow.len _ (least_factor-cost facts f).low

-- and at most 10^20
pub least_distance-high : (facts : LinkFacts) → AreFacts facts → least_distance facts ≤ℤ pos 100000000000000000000
least_distance-high facts f =
    let cost = least_factor-cost facts f in
    per_metre-high facts.arrow.len _ (pos 1000000000000000) f.arrow.short cost.low cost.high

-- what is computed is the low form of the price
pub least_price-is : (used : Bool) (facts : LinkFacts) (distance : ℤ) → distance ≡ counted used (least_distance facts) →
    unsigned_abs (distance +ℤ facts.charge) ≡ least_price used facts
unfolding least_price
least_price-is used facts distance e = rw e refl

-- a count of a distance part is at least 0, and at most twice as much
counted-within : (used : Bool) (distance : ℤ) → pos 0 ≤ℤ distance →
    (pos 0 ≤ℤ counted used distance) × (counted used distance ≤ℤ (distance +ℤ distance))
counted-within true distance low = (omega (arith, ints), omega (arith, ints))
counted-within false distance low = (omega (arith, ints), omega (arith, ints))

-- the low form of the price is the sum
pub least_price-whole : (used : Bool) (facts : LinkFacts) → AreFacts facts →
    pos (least_price used facts) ≡ counted used (least_distance facts) +ℤ facts.charge
unfolding least_price
least_price-whole used facts f =
    let within = counted-within used (least_distance facts) (least_distance-low facts f) in
    let low = within.0 in let charge = f.charge.low in
    omega (arith, ints)

-- and below 2^68
pub least_price-below : (used : Bool) (facts : LinkFacts) → AreFacts facts → least_price used facts < 2 ^ 68
least_price-below used facts f =
    let within = counted-within used (least_distance facts) (least_distance-low facts f) in
    let low = within.0 in let high = within.1 in let most = least_distance-high facts f in
    let charge = f.charge.high in let whole = least_price-whole used facts f in
    omega (arith, ints)

-- the distance part is counted in the sum of all parts, which is no less than it and the node part
counted-least : (used : Bool) (parts : Parts) (least : ℤ) → least ≤ℤ parts.distance → pos 0 ≤ℤ parts.turn →
    pos 0 ≤ℤ parts.initial →
    pos 0 ≤ℤ parts.elevation → (counted used least +ℤ parts.node) ≤ℤ sum_of (ranked used parts)
counted-least true parts least h t i e = omega (arith, ints)
counted-least false parts least h t i e = omega (arith, ints)

-- no walk enters a link for less
pub least_price-least : (p : Prices) (used : Bool) (before : Option LinkFacts) (facts : LinkFacts) (pair : Pair) →
    IsPrices p → AreFacts facts →
    IsHeld p pair → least_price used facts ≤ entry_cost p used before facts pair
unfolding parts_with
least_price-least p used before facts pair is f held =
    let holds = parts_after-hold p before facts pair is f held in
    let paid = holds.paid in
    let below = counted-least used (parts_after p before facts pair) (least_distance facts)
    holds.least paid.turn paid.initial paid.elevation in
    let low = least_price-whole used facts f in
    let whole = cost-whole p used before facts pair is f held in
    omega (arith, ints)
