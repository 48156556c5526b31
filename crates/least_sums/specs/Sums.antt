-- The least sum of prices from a node to a target, over lists of links that join (this project's own rule).
use Rattle.std.specs.Prelude.{◌≡◌, ℕ, ◌+◌, ◌<◌, ◌≤◌, ◌^◌, Bool, true, false, List, [], ◌∷◌, length, get_or, Option, Some, None}
use Rattle.overpass_graph.specs.Roads.{Roads}
use Rattle.overpass_graph.specs.Walks.{IsJoinedWalk}
use Rattle.least_sums.specs.Prices.{Prices}

-- something has a price
abbrev pub has_price : Option ℕ → Bool
has_price None = false
has_price (Some price) = true

-- a link is open where it has a price
abbrev pub is_open : Prices → ℕ → Bool
is_open prices link = has_price (prices link)

-- what is paid for something, nothing where it has no price
abbrev pub paid_for : Option ℕ → ℕ
paid_for None = 0
paid_for (Some price) = price

-- the sum of the prices of a list of links
abbrev pub sum_along : Prices → List ℕ → ℕ
sum_along prices [] = 0
sum_along prices (link ∷ links) = paid_for (prices link) + sum_along prices links

-- a list of open links, each of which leaves where the one before it arrived, from a node to the target; it
-- may turn back
abbrev pub IsOpenWalk : (roads : Roads) (prices : Prices) (target node : ℕ) (walk : List ℕ) → Type 0
IsOpenWalk roads prices target node walk = IsJoinedWalk roads (is_open prices) node target walk

-- a walk from a node to the target that comes to a sum
pub record HasWalk (roads : Roads) (prices : Prices) (target node sum : ℕ) : Type 0 where
  pub walk : List ℕ
  pub is : IsOpenWalk roads prices target node walk
  pub comes_to : sum_along prices walk ≡ sum

-- no walk from a node to the target comes to less
abbrev pub IsAtMostEach : (roads : Roads) (prices : Prices) (target node sum : ℕ) → Type 0
IsAtMostEach roads prices target node sum = (walk : List ℕ) → IsOpenWalk roads prices target node walk →
    sum ≤ sum_along prices walk

-- this is what the cheapest walk from a node to the target comes to
pub record IsLeast (roads : Roads) (prices : Prices) (target node sum : ℕ) : Type 0 where
  pub found : HasWalk roads prices target node sum
  pub least : IsAtMostEach roads prices target node sum

-- no walk leads from a node to the target
abbrev pub HasNoWalk : Roads → Prices → ℕ → ℕ → Type 0
HasNoWalk roads prices target node = (walk : List ℕ) → IsOpenWalk roads prices target node walk → ⊥

-- the least sum from a node to the target, none exactly where no walk leads there
abbrev pub IsLeastSum : (roads : Roads) (prices : Prices) (target node : ℕ) (sum : Option ℕ) → Type 0
IsLeastSum roads prices target node None = HasNoWalk roads prices target node
IsLeastSum roads prices target node (Some sum) = IsLeast roads prices target node sum

-- the sum at a node
abbrev pub sum_of : List (Option ℕ) → ℕ → Option ℕ
sum_of sums node = get_or sums node None

-- each least sum is below this
abbrev pub SUM_BOUND : ℕ
SUM_BOUND = 2 ^ 102

-- each sum keeps its bound
abbrev pub AreBelow : List (Option ℕ) → Type 0
AreBelow sums = (node sum : ℕ) → sum_of sums node ≡ Some sum → sum < SUM_BOUND

-- the least sums from all nodes to the target, by node
pub record AreLeastSums (roads : Roads) (prices : Prices) (target : ℕ) (sums : List (Option ℕ)) : Type 0 where
  pub counted : length sums ≡ roads.nodes
  pub least : (node : ℕ) → node < roads.nodes → IsLeastSum roads prices target node (sum_of sums node)

-- ---- Up to a radius

-- what is found for the nodes of a map, and the radius up to which it was looked for; none where all was found
pub record NodeSums : Type 0 where
  pub sums : List (Option ℕ)
  pub radius : Option ℕ

-- the least sum from a node to the target, or the radius where that is no more: no walk comes to less than
-- this, and where it is below the radius some walk comes to it
pub record IsLeastWithin (roads : Roads) (prices : Prices) (target radius node sum : ℕ) : Type 0 where
  pub within : sum ≤ radius
  pub least : IsAtMostEach roads prices target node sum
  pub found : sum < radius → HasWalk roads prices target node sum

-- the least sum from a node to the target, up to a radius where there is one; none only where there is no
-- radius and no walk leads there
abbrev pub IsLeastSumUpTo :
    (roads : Roads) (prices : Prices) (target : ℕ) (radius : Option ℕ) (node : ℕ) (sum : Option ℕ) → Type 0
IsLeastSumUpTo roads prices target None node sum = IsLeastSum roads prices target node sum
IsLeastSumUpTo roads prices target (Some radius) node None = ⊥
IsLeastSumUpTo roads prices target (Some radius) node (Some sum) =
    IsLeastWithin roads prices target radius node sum

-- the least sums from all nodes to the target, by node, up to a radius where there is one
pub record AreLeastSumsUpTo (roads : Roads) (prices : Prices) (target : ℕ) (found : NodeSums) : Type 0 where
  pub counted : length found.sums ≡ roads.nodes
  pub least : (node : ℕ) → node < roads.nodes →
      IsLeastSumUpTo roads prices target found.radius node (sum_of found.sums node)
