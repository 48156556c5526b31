-- What a walk costs, by the positions of its list of links (this project's own rule).
use Rattle.std.specs.Prelude.{◌≡◌, ℕ, zero, suc, ◌+◌, pos, Bool, List, [], ◌∷◌, ◌++◌, length, take, Option, Some, None}
use Rattle.elev_buffer.specs.Covers.{after}
use Rattle.elev_buffer.specs.declared.labels.Pair.{Pair}
use Rattle.cost_model.specs.Prices.{Prices}
use Rattle.cost_model.specs.Parts.{climb_of, parts_after, cost_of, ranked}
use Rattle.cost_model.specs.declared.facts.LinkFacts.{LinkFacts}
use Rattle.cost_model.specs.declared.parts.Parts.{Parts}
use Rattle.cost_model.specs.declared.parts.Carry.{Carry}
use Rattle.overpass_graph.specs.Walks.{link_at}

-- both buffers as each walk begins
abbrev pub empty_pair : Pair
empty_pair = record { down = pos 0; up = pos 0 }

-- the buffers after all these links, from these buffers
abbrev pub buffers_along : (prices : Prices) (facts : ℕ → LinkFacts) (pair : Pair) (links : List ℕ) → Pair
buffers_along prices facts pair [] = pair
buffers_along prices facts pair (link ∷ links) =
    buffers_along prices facts (after (climb_of prices (facts link)) pair) links

-- the buffers after a whole walk
abbrev pub buffers_after : Prices → (ℕ → LinkFacts) → List ℕ → Pair
buffers_after prices facts links = buffers_along prices facts empty_pair links

-- the buffers before a position of a walk: those after all links before it
abbrev pub buffers_before : (prices : Prices) (facts : ℕ → LinkFacts) (links : List ℕ) (position : ℕ) → Pair
buffers_before prices facts links position = buffers_after prices facts (take position links)

-- the link before a position of a walk; none at the first
abbrev pub link_before : List ℕ → ℕ → Option ℕ
link_before links zero = None
link_before links (suc position) = Some (link_at links position)

-- the facts of a link where there is one
abbrev pub facts_of : (ℕ → LinkFacts) → Option ℕ → Option LinkFacts
facts_of facts None = None
facts_of facts (Some link) = Some (facts link)

-- the five parts at a position of a walk
unfoldable pub parts_at : (prices : Prices) (facts : ℕ → LinkFacts) (links : List ℕ) (position : ℕ) → Parts
parts_at prices facts links position =
    parts_after prices (facts_of facts (link_before links position)) (facts (link_at links position))
    (buffers_before prices facts links position)

-- the sum of a count over the positions before this one
abbrev pub sum_before : (ℕ → ℕ) → ℕ → ℕ
sum_before count zero = 0
sum_before count (suc position) = sum_before count position + count position

-- the cost at a position of a walk
abbrev pub cost_at : (prices : Prices) (facts : ℕ → LinkFacts) (links : List ℕ) (position : ℕ) → ℕ
cost_at prices facts links position = cost_of (parts_at prices facts links position)

-- the cost of a walk: the sum over its positions
abbrev pub walk_cost : Prices → (ℕ → LinkFacts) → List ℕ → ℕ
walk_cost prices facts links = sum_before (cost_at prices facts links) (length links)

-- the rank at a position of a walk: the cost, with the distance counted twice where the link's segment
-- was used
abbrev pub rank_at : (prices : Prices) (facts : ℕ → LinkFacts) (used : ℕ →
    Bool) (links : List ℕ) (position : ℕ) → ℕ
rank_at prices facts used links position =
    cost_of (ranked (used (link_at links position)) (parts_at prices facts links position))

-- the rank of a walk where the segments of these links were used: the sum over its positions
abbrev pub walk_rank : (prices : Prices) (facts : ℕ → LinkFacts) (used : ℕ → Bool) (links : List ℕ) → ℕ
walk_rank prices facts used links = sum_before (rank_at prices facts used links) (length links)

-- the last link of a walk; none of the empty walk
abbrev pub last_link : List ℕ → Option ℕ
last_link links = link_before links (length links)

-- the buffers that are carried
abbrev pub pair_of : Carry → Pair
pair_of carry = record { down = carry.down; up = carry.up }

-- what is carried after a link that was entered with these buffers
abbrev pub carry_after : Prices → ℕ → LinkFacts → Pair → Carry
carry_after prices link facts pair = let left = after (climb_of prices facts) pair in
    record { link = link; down = left.down; up = left.up }

-- this is what a walk carries at its end: its last link and its buffers
pub record IsCarriedBy (prices : Prices) (facts : ℕ → LinkFacts) (links : List ℕ) (carry : Carry) :
    Type 0 where
  pub last : last_link links ≡ Some carry.link
  pub buffers : buffers_after prices facts links ≡ pair_of carry

-- the walk goes on by the link that is carried: the parts are those at its last position, and cost and
-- rank grow by them
pub record GoesOn (prices : Prices) (facts : ℕ → LinkFacts) (links : List ℕ) (carry : Carry) (added : Parts)
    : Type 0 where
  pub carried : IsCarriedBy prices facts (links ++ (carry.link ∷ [])) carry
  pub parts : parts_at prices facts (links ++ (carry.link ∷ [])) (length links) ≡ added
  pub cost : walk_cost prices facts (links ++ (carry.link ∷ [])) ≡
      walk_cost prices facts links + cost_of added
  pub rank : (used : ℕ → Bool) → walk_rank prices facts used (links ++ (carry.link ∷ []))
      ≡ walk_rank prices facts used links + cost_of (ranked (used carry.link) added)
