-- The nodes that have a cost, as they are listed by ascending number in steps. This project's own rule.
use Rattle.std.specs.Prelude.{◌≡◌, ℕ, ◌+◌, ◌*◌, ◌/◌, ◌<◌, ◌≤◌, Bool, true, List, length, get_or, false, Option, Some, None}
use Rattle.cost_table.specs.Reaches.{cost_in}
use Rattle.route_engine.specs.Nearby.{Costed, listed}
use Rattle.route_engine.specs.declared.listing.Listing.{Listing}

-- how many numbers of nodes a block has
abbrev pub block : ℕ
block = 64

-- whether the block of a node is marked
abbrev pub is_marked_at : List Bool → ℕ → Bool
is_marked_at marks node = get_or marks (node / block) false

-- the block of each node that has a cost is marked
abbrev pub AreMarked : (costs : ℕ → Option ℕ) (marks : List Bool) → Type 0
AreMarked costs marks = (node cost : ℕ) → costs node ≡ Some cost → is_marked_at marks node ≡ true

-- there are blocks enough for so many nodes
abbrev pub AreBlocks : (nodes : ℕ) (marks : List Bool) → Type 0
AreBlocks nodes marks = nodes ≤ length marks * block

-- each node that has a cost is one of so many
abbrev pub AreBelow : (costs : ℕ → Option ℕ) (nodes : ℕ) → Type 0
AreBelow costs nodes = (node cost : ℕ) → costs node ≡ Some cost → node < nodes

-- these are the nodes below a number that have a cost, by ascending number, each with its own
pub record IsListedBelow (costs : ℕ → Option ℕ) (end : ℕ) (list : Costed) : Type 0 where
  pub below : (place : ℕ) → place < length list → (get_or list place (0, 0)).0 < end
  pub rising : (i j : ℕ) → i < j → j < length list → (get_or list i (0, 0)).0 < (get_or list j (0, 0)).0
  pub there : (node : ℕ) → node < end → listed list node ≡ costs node
  pub beyond : (node : ℕ) → end ≤ node → listed list node ≡ None

-- it lists what a search tells of so many nodes: those before the next one are listed
pub record IsListing (nodes : ℕ) (listing : Listing) : Type 0 where
  pub blocks : AreBlocks nodes listing.marks.items
  pub marked : AreMarked (cost_in listing.reach) listing.marks.items
  pub fits : listing.node ≤ nodes
  pub listed_is : IsListedBelow (cost_in listing.reach) listing.node listing.list.items

-- a listing goes on so by a step that spends so much: what the same search tells is listed further, by so many nodes at
-- least
pub record ListsOn (nodes spent : ℕ) (before after : Listing) : Type 0 where
  pub on : IsListing nodes after
  pub same : after.reach ≡ before.reach
  pub further : before.node + spent ≤ after.node
