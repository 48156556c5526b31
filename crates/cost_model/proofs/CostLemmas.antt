-- What it costs to enter a link, as a count of millionths.
use Rattle.std.proofs.Common.{◌≡◌, ◌<◌, ◌^◌, pos, Bool, true, false, Option, arith}
use Rattle.std.proofs.lemmas.Int.{ints}
use Rattle.elev_buffer.specs.declared.labels.Pair.{Pair}
use Rattle.cost_model.specs.Facts.{AreFacts}
use Rattle.cost_model.specs.Parts.{parts_after, ranked, sum_of, cost_of, entry_cost, IsHeld, ArePaid}
use Rattle.cost_model.specs.Prices.{Prices, IsPrices}
use Rattle.cost_model.specs.declared.facts.LinkFacts.{LinkFacts}
use Rattle.cost_model.specs.declared.parts.Parts.{Parts}
use Rattle.cost_model.proofs.NumberLemmas.{sum_fits}
use Rattle.cost_model.proofs.PaidLemmas.{PartsHold, turn-small, initial-small, parts-hold}

-- what is paid comes to its sum
pub paid-whole : (parts : Parts) → ArePaid parts → pos (cost_of parts) ≡ sum_of parts
paid-whole parts is = let low = (sum_fits parts is).low in omega (arith, ints)

-- what holds of the parts of a link, whatever walk enters it
pub parts_after-hold : (p : Prices) (before : Option LinkFacts) (facts : LinkFacts) (pair : Pair) → IsPrices p →
    AreFacts facts → IsHeld p pair →
    PartsHold facts (parts_after p before facts pair)
parts_after-hold p before facts pair is f held =
    parts-hold p facts pair _ _ is f held (turn-small before facts f) (initial-small before facts f)

-- they are paid, with the distance counted twice too
pub ranked-paid : (p : Prices) (used : Bool) (before : Option LinkFacts) (facts : LinkFacts) (pair : Pair) →
    IsPrices p → AreFacts facts →
    IsHeld p pair → ArePaid (ranked used (parts_after p before facts pair))
ranked-paid p true before facts pair is f held = (parts_after-hold p before facts pair is f held).twice
ranked-paid p false before facts pair is f held = (parts_after-hold p before facts pair is f held).paid

-- what it costs to enter a link is the sum of its parts
pub cost-whole : (p : Prices) (used : Bool) (before : Option LinkFacts) (facts : LinkFacts) (pair : Pair) →
    IsPrices p → AreFacts facts →
    IsHeld p pair → pos (entry_cost p used before facts pair) ≡ sum_of (ranked used (parts_after p before facts pair))
cost-whole p used before facts pair is f held = paid-whole _ (ranked-paid p used before facts pair is f held)

-- and below 2^81
pub cost-below : (p : Prices) (used : Bool) (before : Option LinkFacts) (facts : LinkFacts) (pair : Pair) →
    IsPrices p → AreFacts facts →
    IsHeld p pair → entry_cost p used before facts pair < 2 ^ 81
cost-below p used before facts pair is f held =
    let whole = cost-whole p used before facts pair is f held in
    let below = (ranked-paid p used before facts pair is f held).below in
    omega (arith, ints)
