-- For the parts of a turn alone: the costs that are found, and the nodes that wait for theirs (this project's
-- own rule).
use Rattle.std.specs.Prelude.{ℕ, ◌≡◌, ◌≢◌, ◌≤◌, ◌<◌, Bool, true, false, not, ◌&&◌, nat_eq, List, Option, Some, None}
use Rattle.std.specs.List.{list_any}
use Rattle.indexmap.specs.IndexMap.{get}
use Rattle.cost_table.specs.Waiting.{NoneWaits, WaitsNoLonger, waits_among}
use Rattle.cost_table.specs.declared.found.Found.{Found}
use Rattle.cost_table.specs.declared.turn.ReachTurn.{ReachTurn}
use Rattle.cost_table.specs.declared.turn.ReachTurn.TheVariants.{More, Done, Budget}
use Rattle.cost_table.specs.declared.want.Want.{Want}
use Rattle.cost_table.specs.declared.want.Want.TheVariants.{Nodes, Within}

-- the cost that is found for a node
abbrev pub cost_at : Found → ℕ → Option ℕ
cost_at found node = get nat_eq found.costs node

-- whether a node waits
abbrev pub waits : Found → ℕ → Bool
waits found node = waits_among found.waiting node

-- nothing is found, and none waits
pub record IsNew (found : Found) : Type 0 where
  pub costs : (node : ℕ) → cost_at found node ≡ None
  pub waiting : (node : ℕ) → waits found node ≡ false

-- the same costs are found, and the same nodes wait
pub record AreSame (before after : Found) : Type 0 where
  pub costs : (node : ℕ) → cost_at after node ≡ cost_at before node
  pub waiting : (node : ℕ) → waits after node ≡ waits before node

-- a cost is put down for a node that has none; others keep what they have
pub record PutsDown (node cost : ℕ) (before after : ℕ → Option ℕ) : Type 0 where
  pub there : (old : ℕ) → before node ≡ Some old → after node ≡ Some old
  pub new : before node ≡ None → after node ≡ Some cost
  pub others : (other : ℕ) → other ≢ node → after other ≡ before other

-- these nodes wait, but the one that is left
abbrev pub AreAwaited : (nodes : List ℕ) (source : ℕ) (waiting : ℕ → Bool) → Type 0
AreAwaited nodes source waiting =
    (node : ℕ) → waiting node ≡ (list_any (nat_eq node) nodes && not (nat_eq node source))

-- what begins by what is asked, with whether all is found
abbrev pub BeginsBy : Want → (source : ℕ) (after : Found) → Bool → Type 0
BeginsBy (Nodes nodes) source after done =
    AreAwaited nodes.items source (waits after) × NoneWaits (waits after) done
BeginsBy (Within most) source after done = done ≡ false

-- the node that is left is found, and the others that are named wait
pub record Begins (source : ℕ) (before after : Found) (done : Bool) : Type 0 where
  pub puts : PutsDown source 0 (cost_at before) (cost_at after)
  pub by_want : BeginsBy before.want source after done

-- what a label that reaches a node at a cost does where nodes are named, with whether all is found
pub data NotesNamed (node cost : ℕ) (before after : Found) : Bool → Type 0 where
  passed : waits before node ≡ false → AreSame before after → NotesNamed node cost before after false
  found :
      {done : Bool} → waits before node ≡ true → WaitsNoLonger node (waits before) (waits after) →
      PutsDown node cost (cost_at before) (cost_at after) → NoneWaits (waits after) done →
      NotesNamed node cost before after done

-- what it does where all within a cost are asked for, with whether it is beyond
pub data NotesWithin (most node cost : ℕ) (before after : Found) : Bool → Type 0 where
  beyond : most < cost → AreSame before after → NotesWithin most node cost before after true
  within :
      cost ≤ most → PutsDown node cost (cost_at before) (cost_at after) →
      NotesWithin most node cost before after false

-- what it does by what is asked
abbrev pub NotesBy : Want → (node cost : ℕ) (before after : Found) → Bool → Type 0
NotesBy (Nodes nodes) node cost before after done = NotesNamed node cost before after done
NotesBy (Within most) node cost before after done = NotesWithin most node cost before after done

-- what a label comes to that would be one more than the limit, where all within a cost are asked for: it is beyond
-- the cost, and all is found; or the limit is spent
abbrev pub PassesWithin : (most cost : ℕ) → ReachTurn → Type 0
PassesWithin most cost More = ⊥
PassesWithin most cost Done = most < cost
PassesWithin most cost Budget = cost ≤ most

-- what it comes to by what is asked: where nodes are named, the limit is spent
abbrev pub PassesBy : Want → (cost : ℕ) → ReachTurn → Type 0
PassesBy (Nodes nodes) cost turn = turn ≡ Budget
PassesBy (Within most) cost turn = PassesWithin most cost turn
