-- What a search keeps while it runs: the labels that it made, the queue of those that wait, those that it
-- settled, and for each slot the front that the covering test asks. This project's own rule.
use Rattle.std.specs.Bool.{IsTrue}
use Rattle.std.specs.List.{slice_get, Contains}
use Rattle.std.specs.Prelude.{ℕ, ◌≡◌, ◌<◌, ◌≤◌, ◌+◌, ◌*◌, ◌-◌, ◌^◌, ◌⊎◌, false, Some, None, List, [], length}
use Rattle.item_list.specs.Pages.{numbers_of}
use Rattle.space_search.specs.Blocks.{AreFloors}
use Rattle.space_search.specs.Fronts.{Asked, AreFronts, IsAsked, heads_of, member_of}
use Rattle.space_search.specs.Laws.{HasRank}
use Rattle.space_search.specs.Queues.{Entry}
use Rattle.space_search.specs.Rules.{Rules, COST_BOUND}
use Rattle.space_search.specs.declared.fronts.Block.{Block}
use Rattle.space_search.specs.declared.fronts.Head.{Head}
use Rattle.space_search.specs.declared.fronts.Member.{Member}
use Rattle.space_search.specs.declared.label.Label.{Label}
use Rattle.space_search.specs.declared.lists.Lists.{Lists}

-- the lists that a search keeps
pub record Books (S : Type 0) : Type 0 where
  -- the labels that were made, by number
  pub labels : List (Label S)
  -- what waits to be taken
  pub queue : List Entry
  -- the numbers of the labels that were settled, in that order: a place in this list is a settled label
  pub settled : List ℕ
  -- where the front of each slot stands
  pub heads : List Head
  -- the fronts of several labels
  pub many : List (List (Block S))

-- the lists of a search, as contracts see them
abbrev pub books : {S : Type 0} → Lists S → Books S
books lists =
    record {
      labels = lists.labels.items;
      queue = lists.queue;
      settled = lists.settled.items;
      heads = heads_of lists.fronts.heads;
      many = numbers_of lists.fronts.many.items;
    }

-- what their fronts are read from
abbrev pub asked_of : {S : Type 0} → Books S → Asked S
asked_of kept = record { labels = kept.labels; heads = kept.heads; many = kept.many }

-- the label with this number
abbrev pub IsLabel : {S : Type 0} → Books S → ℕ → Label S → Type 0
IsLabel kept number label = slice_get kept.labels number ≡ Some label

-- the label that was settled at this place
pub record IsSettled {S : Type 0} (kept : Books S) (place : ℕ) (label : Label S) : Type 0 where
  pub number : ℕ
  pub at : slice_get kept.settled place ≡ Some number
  pub there : IsLabel kept number label

-- a label comes from a permitted start at its cost, or from a permitted step of a label that is settled
-- below this place, whose cost and the step's give its own. Its parent is that place plus 1, or 0
pub data CameFrom {S : Type 0} (rules : Rules S) (kept : Books S) (below : ℕ) (label : Label S) : Type 0 where
  from_start :
      label.parent ≡ 0 → label.choice < rules.starts →
      rules.start label.choice ≡ Some (label.state, label.cost) →
      CameFrom rules kept below label
  from_label :
      (place : ℕ) (parent : Label S) (cost : ℕ) →
      label.parent ≡ place + 1 → place < below → IsSettled kept place parent →
      label.choice < rules.steps parent.state →
      rules.step parent.state label.choice ≡ Some (label.state, cost) →
      label.cost ≡ parent.cost + cost →
      CameFrom rules kept below label

-- a label whose state is valid, whose cost is bounded by the place below which its parent is settled, and
-- which comes from a start or from such a parent
pub record Follows {S : Type 0} (rules : Rules S) (kept : Books S) (below : ℕ) (label : Label S)
    : Type 0 where
  pub valid : IsTrue (rules.is_valid label.state)
  pub bounded : label.cost < (below + 1) * COST_BOUND
  pub came : CameFrom rules kept below label

-- some settled label covers the state at this cost
pub record IsCovered {S : Type 0} (rules : Rules S) (kept : Books S) (state : S) (cost : ℕ) : Type 0 where
  pub place : ℕ
  pub label : Label S
  pub settled : IsSettled kept place label
  pub covers : IsTrue (rules.covers label.state label.cost state cost)

-- no settled label covers the state at this cost
abbrev pub IsUncovered : {S : Type 0} → Rules S → Books S → S → ℕ → Type 0
IsUncovered {S} rules kept state cost =
    (place : ℕ) (label : Label S) → IsSettled kept place label →
    rules.covers label.state label.cost state cost ≡ false

-- no settled label ranks above this state at this cost
abbrev pub RanksAbove : {S : Type 0} → Rules S → Books S → S → ℕ → Type 0
RanksAbove {S} rules kept state cost =
    (place : ℕ) (label : Label S) (low high : ℕ) → IsSettled kept place label →
    HasRank rules label.state label.cost low → HasRank rules state cost high → low ≤ high

-- a valid state at a cost that ranks no less than any settled label
pub record IsLater {S : Type 0} (rules : Rules S) (kept : Books S) (state : S) (cost : ℕ) : Type 0 where
  pub valid : IsTrue (rules.is_valid state)
  pub rank : ℕ
  pub ranked : HasRank rules state cost rank
  pub above : RanksAbove rules kept state cost

-- some label that was settled after this place covers the state at this cost
pub record IsCoveredAfter {S : Type 0} (rules : Rules S) (kept : Books S) (before : ℕ) (state : S) (cost : ℕ)
    : Type 0 where
  pub place : ℕ
  pub label : Label S
  pub settled : IsSettled kept place label
  pub after : before < place
  pub covers : IsTrue (rules.covers label.state label.cost state cost)

-- whatever the label of this place covers of what comes later, one that was settled after it covers
abbrev pub IsNeedless : {S : Type 0} → Rules S → Books S → ℕ → Label S → Type 0
IsNeedless {S} rules kept place label =
    (state : S) (cost : ℕ) → IsLater rules kept state cost →
    IsTrue (rules.covers label.state label.cost state cost) → IsCoveredAfter rules kept place state cost

-- the queue itself has a label of this state at this very cost
pub record Waits {S : Type 0} (kept : Books S) (state : S) (cost : ℕ) : Type 0 where
  pub label : Label S
  pub entry : Entry
  pub queued : Contains kept.queue entry
  pub there : IsLabel kept entry.0.1 label
  pub state_is : label.state ≡ state
  pub cost_is : label.cost ≡ cost

-- what a start or a step gives is taken care of: a settled label covers it, or it waits, or no goal is
-- reached from it
pub data IsAccounted {S : Type 0} (rules : Rules S) (kept : Books S) (state : S) (cost : ℕ) : Type 0 where
  by_label : IsCovered rules kept state cost → IsAccounted rules kept state cost
  by_queue : Waits kept state cost → IsAccounted rules kept state cost
  by_bound : rules.low state ≡ None → IsAccounted rules kept state cost

-- the first starts, so many of them, are taken care of
abbrev pub HasStarts : {S : Type 0} → Rules S → Books S → ℕ → Type 0
HasStarts {S} rules kept upto =
    (number : ℕ) (state : S) (cost : ℕ) →
    number < upto → rules.start number ≡ Some (state, cost) → IsAccounted rules kept state cost

-- the first steps of a label, so many of them, are taken care of
abbrev pub HasSteps : {S : Type 0} → Rules S → Books S → Label S → ℕ → Type 0
HasSteps {S} rules kept label upto =
    (number : ℕ) (state : S) (cost : ℕ) →
    number < upto → rules.step label.state number ≡ Some (state, cost) →
    IsAccounted rules kept state (label.cost + cost)

-- the steps of each settled label are taken care of, of those at places below this one
abbrev pub HasStepsBelow : {S : Type 0} → Rules S → Books S → ℕ → Type 0
HasStepsBelow {S} rules kept below =
    (place : ℕ) (label : Label S) →
    place < below → IsSettled kept place label → HasSteps rules kept label (rules.steps label.state)

-- all starts, and all steps of each settled label, are taken care of
pub record IsClosed {S : Type 0} (rules : Rules S) (kept : Books S) : Type 0 where
  pub starts : HasStarts rules kept rules.starts
  pub steps : HasStepsBelow rules kept (length kept.settled)

-- a settled label of the slot has this state at this cost
pub record IsOfSlot {S : Type 0} (rules : Rules S) (kept : Books S) (slot : ℕ) (one : Member S) : Type 0 where
  pub place : ℕ
  pub label : Label S
  pub settled : IsSettled kept place label
  pub slot_is : rules.slot label.state ≡ slot
  pub is : member_of label ≡ one

-- the fronts of the slots: what a slot is asked are settled labels of it, and those of its settled labels that
-- it isn't asked are needless
pub record IsIndex {S : Type 0} (rules : Rules S) (kept : Books S) : Type 0 where
  pub slots : length kept.heads ≡ rules.slots
  pub fronts : AreFronts (asked_of kept)
  pub floors : AreFloors rules kept.many
  pub inside :
      (slot : ℕ) (one : Member S) → IsAsked (asked_of kept) slot one → IsOfSlot rules kept slot one
  pub last :
      (place : ℕ) (label : Label S) → IsSettled kept place label →
      IsAsked (asked_of kept) (rules.slot label.state) (member_of label) ⊎ IsNeedless rules kept place label

-- what a settled label's run and cost can be read from, also after want of memory
pub record Reads {S : Type 0} (rules : Rules S) (kept : Books S) : Type 0 where
  -- a place and the place after it have 32 bits
  pub few_settled : length kept.settled < 2 ^ 32
  -- each place has a label
  pub settled_there :
      (place number : ℕ) → slice_get kept.settled place ≡ Some number → (label : Label S) ×
      IsLabel kept number label
  -- each settled label comes from a start or from one that was settled before it
  pub settled_follows :
      (place : ℕ) (label : Label S) → IsSettled kept place label → Follows rules kept place label

-- of two settled labels the later has no smaller rank, and the earlier doesn't cover it
pub record IsRising {S : Type 0} (rules : Rules S) (kept : Books S) : Type 0 where
  pub ranked :
      (place : ℕ) (label : Label S) → IsSettled kept place label → (rank : ℕ) ×
      HasRank rules label.state label.cost rank
  pub rising :
      (first second : ℕ) (a b : Label S) (low high : ℕ) → first ≤ second →
      IsSettled kept first a → IsSettled kept second b →
      HasRank rules a.state a.cost low → HasRank rules b.state b.cost high → low ≤ high
  pub apart :
      (first second : ℕ) (a b : Label S) → first < second → IsSettled kept first a → IsSettled kept second b →
      rules.covers a.state a.cost b.state b.cost ≡ false

-- what holds of the settled labels at each moment, also after want of memory: they read right, none is a
-- goal, and they are in order
pub record Stands {S : Type 0} (rules : Rules S) (kept : Books S) : Type 0 where
  pub reads : Reads rules kept
  pub no_goal : (place : ℕ) (label : Label S) → IsSettled kept place label → rules.is_goal label.state ≡ false
  pub rising : IsRising rules kept

-- what holds of the lists at each moment, whatever was taken care of so far
pub record IsSearch {S : Type 0} (rules : Rules S) (kept : Books S) : Type 0 where
  pub stands : Stands rules kept
  -- there are no more labels than numbers of 32 bits for them
  pub few : length kept.labels ≤ 4294967295
  -- each label comes from a start or a settled label
  pub follows :
      (number : ℕ) (label : Label S) → IsLabel kept number label →
      Follows rules kept (length kept.settled) label
  -- each entry of the queue is a label with its rank
  pub queued :
      (entry : Entry) → Contains kept.queue entry →
      (label : Label S) × IsLabel kept entry.0.1 label × HasRank rules label.state label.cost entry.0.0
  -- what waits ranks no less than any settled label
  pub above :
      (place : ℕ) (label : Label S) (rank : ℕ) → IsSettled kept place label →
      HasRank rules label.state label.cost rank →
      (entry : Entry) → Contains kept.queue entry → rank ≤ entry.0.0
  pub index : IsIndex rules kept

-- the second has all labels and all that waits in the first, and the same settled labels
pub record Extends {S : Type 0} (before after : Books S) : Type 0 where
  pub labels : (number : ℕ) (label : Label S) → IsLabel before number label → IsLabel after number label
  pub queue : (entry : Entry) → Contains before.queue entry → Contains after.queue entry
  pub settled : after.settled ≡ before.settled

-- a bound on how many entries will still be taken from the queue
abbrev pub work_left : {S : Type 0} → Books S → ℕ
work_left kept = 2 * (4294967295 - length kept.labels) + length kept.queue

-- each settled label keeps its place
abbrev pub KeepsLabels : {S : Type 0} → Books S → Books S → Type 0
KeepsLabels {S} before after =
    (place : ℕ) (label : Label S) → IsSettled before place label → IsSettled after place label

-- what a part of a turn leaves, also where memory runs out in it: all settled labels, which still stand
pub record Leaves {S : Type 0} (rules : Rules S) (before after : Books S) : Type 0 where
  pub stands : Stands rules after
  pub keeps : KeepsLabels before after

-- lists in which nothing stands
pub record IsFresh {S : Type 0} (kept : Books S) : Type 0 where
  pub labels : kept.labels ≡ []
  pub queue : kept.queue ≡ []
  pub settled : kept.settled ≡ []
  pub many : kept.many ≡ []
