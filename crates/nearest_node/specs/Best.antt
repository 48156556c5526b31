-- The best of the nodes that were looked at: the distance above, the number of the node below.
use Rattle.std.specs.Prelude.{◌≡◌, ℕ, ◌+◌, ◌*◌, ◌^◌, ◌%◌, ◌<◌, ◌≤◌, cond, nat_le, List, length, get_or}
use Rattle.geo_int.specs.Place.{Place}
use Rattle.nearest_node.specs.Nearest.{distance_to}

-- a length in millimetres; all above 100 kilometres are one
unfoldable pub held_length : ℕ → ℕ
held_length length = cond (nat_le length 100000000) length 100000001

-- the rank of a node among those at these places: nearer ones come first, of those as near the smaller number
unfoldable pub rank_of : (places : ℕ → Place) (at : Place) (node : ℕ) → ℕ
rank_of places at node = distance_to places at node * 2 ^ 32 + node

-- the rank that stands for no node: that of the first node beyond the farthest move
abbrev pub no_rank : ℕ
no_rank = 250001 * 2 ^ 32

-- a rank is that of a node that is let through, or stands for none
pub record IsBest (count : ℕ) (places : ℕ → Place) (may : ℕ → Type 0) (at : Place) (best : ℕ) : Type 0 where
  pub most : best ≤ no_rank
  pub in_range : best < no_rank → best % 2 ^ 32 < count
  pub let_through : best < no_rank → may (best % 2 ^ 32)
  pub is : best < no_rank → best ≡ rank_of places at (best % 2 ^ 32)

-- no node of these keys that is let through ranks before the best
abbrev pub IsFirstOf : (places : ℕ → Place) (may : ℕ →
    Type 0) (at : Place) (keys : List ℕ) (from to best : ℕ) → Type 0
IsFirstOf places may at keys from to best =
    (k : ℕ) → from ≤ k → k < to → may (get_or keys k 0 % 2 ^ 32) →
    best ≤ rank_of places at (get_or keys k 0 % 2 ^ 32)
