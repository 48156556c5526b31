-- The nodes that wait for their cost, with the marks that tell of most others that they don't (this project's
-- own rule).
use Rattle.std.specs.Prelude.{ℕ, ◌≡◌, ◌≢◌, ◌%◌, Bool, true, false, ◌||◌, nat_eq, List, length, get_or}
use Rattle.std.specs.List.{list_any}

-- whether a node is one of those that wait
abbrev pub waits_among : List ℕ → ℕ → Bool
waits_among nodes node = list_any (nat_eq node) nodes

-- there are 64 marks, and that of each node that waits is set
pub record AreMarked (nodes : List ℕ) (marks : List Bool) : Type 0 where
  pub long : length marks ≡ 64
  pub marked : (node : ℕ) → waits_among nodes node ≡ true → get_or marks (node % 64) false ≡ true

-- a node waits too
abbrev pub WaitsToo : (node : ℕ) (before after : ℕ → Bool) → Type 0
WaitsToo node before after = (other : ℕ) → after other ≡ (nat_eq node other || before other)

-- a node waits no longer
pub record WaitsNoLonger (node : ℕ) (before after : ℕ → Bool) : Type 0 where
  pub here : after node ≡ false
  pub others : (other : ℕ) → other ≢ node → after other ≡ before other

-- whether none waits
abbrev pub NoneWaits : (waiting : ℕ → Bool) → Bool → Type 0
NoneWaits waiting true = (node : ℕ) → waiting node ≡ false
NoneWaits waiting false = (node : ℕ) × (waiting node ≡ true)
