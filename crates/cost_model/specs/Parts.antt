-- What one link costs, in five parts in millionths (this project's own rule).
use Rattle.std.specs.Prelude.{◌≡◌, ℕ, ℤ, pos, ◌+ℤ◌, ◌-ℤ◌, ◌*ℤ◌, ◌≤ℤ◌, ◌<ℤ◌, ◌^◌, int_le, ◌&&◌, Bool, true, false, cond, Option, Some, None, unsigned_abs}
use Rattle.std.specs.Int.{int_div_euclid, int_max, int_min}
use Rattle.geo_int.specs.Turn.{turn_cosine}
use Rattle.elev_buffer.specs.Covers.{Climb, down_step, up_step}
use Rattle.elev_buffer.specs.declared.labels.Pair.{Pair}
use Rattle.cost_model.specs.Prices.{Prices}
use Rattle.cost_model.specs.declared.facts.LinkFacts.{LinkFacts}
use Rattle.cost_model.specs.declared.parts.Parts.{Parts}

-- a weight in millionths, from 0 to a million
pub record IsWeight (n : ℤ) : Type 0 where
  pub low : pos 0 ≤ℤ n
  pub high : n ≤ℤ pos 1000000

-- what a rate for a metre comes to along so many millimetres, rounded down
unfoldable pub per_metre : ℕ → ℤ → ℤ
per_metre length rate = int_div_euclid (pos length *ℤ rate) (pos 1000)

-- what a link adds to both buffers, and by how much it reduces them
unfoldable pub climb_of : Prices → LinkFacts → Climb
climb_of prices facts = record {
  limits = prices.limits;
  down_added = pos 0 -ℤ facts.rise -ℤ per_metre facts.arrow.len prices.down_cutoff;
  up_added = facts.rise -ℤ per_metre facts.arrow.len prices.up_cutoff;
  reduction = per_metre facts.arrow.len prices.reduction;
}

-- costfactor, moved toward the factors for descending and climbing by the weights of both buffers in
-- millionths
unfoldable pub moved_of : LinkFacts → ℤ → ℤ → ℤ
moved_of facts down_weight up_weight =
    int_div_euclid
    (facts.costfactor *ℤ pos 1000000
    +ℤ (facts.downfactor -ℤ facts.costfactor) *ℤ down_weight
    +ℤ (facts.upfactor -ℤ facts.costfactor) *ℤ up_weight)
    (pos 1000000)

-- the factor of the distance by both weights: it never falls below 0
abbrev pub factor_of : LinkFacts → ℤ → ℤ → ℤ
factor_of facts down_weight up_weight = int_max (moved_of facts down_weight up_weight) (pos 0)

-- the low form of the factor, which no weights fall below
unfoldable pub least_factor : LinkFacts → ℤ
least_factor facts =
    int_max (facts.costfactor
    +ℤ int_min (pos 0) (facts.downfactor -ℤ facts.costfactor)
    +ℤ int_min (pos 0) (facts.upfactor -ℤ facts.costfactor))
    (pos 0)

-- the distance part by both weights
abbrev pub distance_of : LinkFacts → ℤ → ℤ → ℤ
distance_of facts down_weight up_weight = per_metre facts.arrow.len (factor_of facts down_weight up_weight)

-- the low form of the distance part
abbrev pub least_distance : LinkFacts → ℤ
least_distance facts = per_metre facts.arrow.len (least_factor facts)

-- the price of a turn of this cosine
unfoldable pub turn_price : ℤ → ℤ → ℤ
turn_price turncost cosine = int_div_euclid (turncost *ℤ (pos 1000000 -ℤ cosine)) (pos 1000000)

-- the turn part: the turn cost of the way that is entered; none on a first link
abbrev pub turn_of : Option LinkFacts → LinkFacts → ℤ
turn_of None facts = pos 0
turn_of (Some last) facts = turn_price facts.turncost (turn_cosine last.arrow facts.arrow)

-- whether two numbers are one
abbrev pub is_same : ℤ → ℤ → Bool
is_same a b = int_le a b && int_le b a

-- the initial part: that of the way that is entered, where its classifier is not that of the last link;
-- none on a first link
abbrev pub initial_of : Option LinkFacts → LinkFacts → ℤ
initial_of None facts = pos 0
initial_of (Some last) facts = cond (is_same last.classifier facts.classifier) (pos 0) facts.initialcost

-- the elevation part: what both steps pay, at its price
abbrev pub elevation_of : Prices → LinkFacts → Pair → ℤ
elevation_of prices facts pair = let climb = climb_of prices facts in
    (down_step climb pair).paid *ℤ prices.down_rate +ℤ (up_step climb pair).paid *ℤ prices.up_rate

-- the five parts of a link with these turn and initial parts and these buffers
unfoldable pub parts_with : (prices : Prices) (turn initial : ℤ) (facts : LinkFacts) (pair : Pair) → Parts
parts_with prices turn initial facts pair = let climb = climb_of prices facts in record {
  distance = distance_of facts (down_step climb pair).weight (up_step climb pair).weight;
  turn = turn;
  initial = initial;
  node = facts.charge;
  elevation = elevation_of prices facts pair;
}

-- the five parts of a link that is entered after another link or as the first, with these buffers
abbrev pub parts_after : Prices → Option LinkFacts → LinkFacts → Pair → Parts
parts_after prices before facts pair =
    parts_with prices (turn_of before facts) (initial_of before facts) facts pair

-- the sum of the five parts
abbrev pub sum_of : Parts → ℤ
sum_of parts = parts.distance +ℤ parts.turn +ℤ parts.initial +ℤ parts.node +ℤ parts.elevation

-- the parts with the distance counted once more where this is asked for
abbrev pub ranked : Bool → Parts → Parts
ranked true parts = record parts { distance = parts.distance +ℤ parts.distance }
ranked false parts = parts

-- what parts come to, as a count of millionths; no sum of parts is negative
abbrev pub cost_of : Parts → ℕ
cost_of parts = unsigned_abs (sum_of parts)

-- what it costs to enter a link after another or as the first, with these buffers, as a count of millionths;
-- the distance is counted twice where the link's segment was used
abbrev pub entry_cost : (prices : Prices) (used : Bool) (before : Option LinkFacts) (facts : LinkFacts)
    (pair : Pair) → ℕ
entry_cost prices used before facts pair = cost_of (ranked used (parts_after prices before facts pair))

-- a distance part, counted twice where this is asked for
abbrev pub counted : Bool → ℤ → ℤ
counted true distance = distance +ℤ distance
counted false distance = distance

-- the low form of what it costs to enter a link, as a count of millionths: the low form of its distance part,
-- counted twice where its segment was used, and the charge of its end
unfoldable pub least_price : Bool → LinkFacts → ℕ
least_price used facts = unsigned_abs (counted used (least_distance facts) +ℤ facts.charge)

-- both buffers are within 0 and the most
pub record IsHeld (prices : Prices) (pair : Pair) : Type 0 where
  pub down_low : pos 0 ≤ℤ pair.down
  pub down_high : pair.down ≤ℤ prices.limits.most
  pub up_low : pos 0 ≤ℤ pair.up
  pub up_high : pair.up ≤ℤ prices.limits.most

-- no part is negative, and the sum stays below 2^81
pub record ArePaid (parts : Parts) : Type 0 where
  pub distance : pos 0 ≤ℤ parts.distance
  pub turn : pos 0 ≤ℤ parts.turn
  pub initial : pos 0 ≤ℤ parts.initial
  pub node : pos 0 ≤ℤ parts.node
  pub elevation : pos 0 ≤ℤ parts.elevation
  pub below : sum_of parts <ℤ pos (2 ^ 81)

-- how the factor of the distance moves with the weight of a buffer: it does not fall where that buffer's
-- factor is at least costfactor, and does not move where it equals costfactor
pub record MovesWithWeights (facts : LinkFacts) : Type 0 where
  pub down : facts.costfactor ≤ℤ facts.downfactor → (less more up : ℤ) → less ≤ℤ more →
      factor_of facts less up ≤ℤ factor_of facts more up
  pub up : facts.costfactor ≤ℤ facts.upfactor → (less more down : ℤ) → less ≤ℤ more →
      factor_of facts down less ≤ℤ factor_of facts down more
  pub down_same : facts.downfactor ≡ facts.costfactor → (one other up : ℤ) →
      factor_of facts one up ≡ factor_of facts other up
  pub up_same : facts.upfactor ≡ facts.costfactor → (one other down : ℤ) →
      factor_of facts down one ≡ factor_of facts down other
