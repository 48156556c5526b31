-- What it costs at least to enter a link after another.
use Rattle.std.proofs.Common.{ℕ, ◌*◌, ◌≤◌, ℤ, pos, negsuc, ◌+ℤ◌, ◌-ℤ◌, ◌*ℤ◌, ◌≤ℤ◌, Bool, true, false, Some, unsigned_abs, SFits, w64, arith}
use Rattle.std.specs.Int.{w128}
use Rattle.std.proofs.lemmas.Int.{ints, fits_signed_from_abs, unsigned_abs-mul}
use Rattle.std.proofs.lemmas.Nat.{mul-le}
use Rattle.elev_buffer.specs.declared.labels.Pair.{Pair}
use Rattle.cost_model.specs.Facts.{AreFacts, IsCost}
use Rattle.cost_model.specs.Parts.{IsHeld, entry_cost, least_distance, parts_after, parts_with, ranked, sum_of}
use Rattle.cost_model.specs.Prices.{IsPrices, Prices}
use Rattle.cost_model.specs.declared.facts.LinkFacts.{LinkFacts}
use Rattle.cost_model.specs.declared.parts.Parts.{Parts}
use Rattle.cost_model.proofs.CallerLemmas.{cost-whole, initial-small, least_price-whole, parts_after-hold, turn-small}
use Rattle.ride_bounds.specs.Entries.{least_entry, weight_of}

-- the numbers on the way to the price of a turn
pub record PriceFits (turncost cosine : ℤ) : Type 0 where
  pub narrow : SFits w64 turncost
  pub cost : SFits w128 turncost
  pub rest : SFits w64 (pos 1000000 -ℤ cosine)
  pub wide : SFits w128 (pos 1000000 -ℤ cosine)
  pub product : SFits w128 (turncost *ℤ (pos 1000000 -ℤ cosine))

-- fit
pub price-fits : (turncost cosine : ℤ) → IsCost turncost → negsuc 999999 ≤ℤ cosine → cosine ≤ℤ pos 1000000 →
    PriceFits turncost cosine
price-fits turncost cosine is low high =
    let cl = is.low in
    let ch = is.high in
    let rest : unsigned_abs (pos 1000000 -ℤ cosine) ≤ 2000000 = omega (arith, ints) in
    let cost : unsigned_abs turncost ≤ 1000000000000000 = omega (arith, ints) in
    let p : unsigned_abs (turncost *ℤ (pos 1000000 -ℤ cosine)) ≤ 1000000000000000 * 2000000 =
    omega (
      arith,
      unsigned_abs-mul turncost (pos 1000000 -ℤ cosine),
      mul-le (unsigned_abs turncost) (unsigned_abs (pos 1000000 -ℤ cosine)) 1000000000000000 2000000 cost rest,
    ) in
    record {
      narrow = fits_signed_from_abs w64 _ (omega (arith, ints));
      cost = fits_signed_from_abs w128 _ (omega (arith, ints));
      rest = fits_signed_from_abs w64 _ (omega (arith, ints));
      wide = fits_signed_from_abs w128 _ (omega (arith, ints));
      product = fits_signed_from_abs w128 _ (omega arith);
    }

-- a sum of parts is no less than its turn, its initial and its node part and a distance below its own
sum-least : (used : Bool) (parts : Parts) (least : ℤ) → least ≤ℤ parts.distance → pos 0 ≤ℤ parts.distance →
    pos 0 ≤ℤ parts.elevation → (least +ℤ parts.node +ℤ parts.turn +ℤ parts.initial) ≤ℤ sum_of (ranked used parts)
sum-least true parts least h d e = omega (arith, ints)
sum-least false parts least h d e = omega (arith, ints)

-- no walk enters a link after another for less
pub entry-least : (p : Prices) (used : Bool) (last facts : LinkFacts) (pair : Pair) → IsPrices p → AreFacts facts → IsHeld p pair →
    least_entry last facts ≤ entry_cost p used (Some last) facts pair
unfolding parts_with least_entry
entry-least p used last facts pair is f held =
    let holds = parts_after-hold p (Some last) facts pair is f held in
    let paid = holds.paid in
    let below = sum-least used (parts_after p (Some last) facts pair) (least_distance facts) holds.least paid.distance paid.elevation in
    let low = least_price-whole false facts f in
    let whole = cost-whole p used (Some last) facts pair is f held in
    let turn = (turn-small (Some last) facts f).low in
    let initial = (initial-small (Some last) facts f).low in
    omega (arith, ints)

-- a weight in millionths is no more than the price
pub weight-below : (price : ℕ) → weight_of price * 1000 ≤ price
unfolding weight_of
weight-below price = omega arith
