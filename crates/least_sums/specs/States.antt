-- How far the finding of least sums is: the sums so far and what waits to be looked at (this project's own
-- rule).
use Rattle.std.specs.BinaryHeap.{heap_items}
use Rattle.std.specs.List.{Contains, count_by, sum}
use Rattle.std.specs.List.Sorted.{IsPermutation}
use Rattle.std.specs.Prelude.{◌≡◌, ℕ, ◌+◌, ◌*◌, ◌<◌, ◌≤◌, ◌^◌, ◌⊎◌, Bool, false, List, ◌∷◌, length, get_or, map, set, Option, Some, None, nat_lt}
use Rattle.std.specs.declared.cmp.Reverse.{Reverse}
use Rattle.overpass_graph.specs.Roads.{Roads, out_links, twin_of}
use Rattle.least_sums.specs.Prices.{Prices, PRICE_BOUND}
use Rattle.least_sums.specs.Sums.{HasWalk, SUM_BOUND}
use Rattle.least_sums.specs.declared.board.Board.{Board}

-- a node waits with the sum that it had when it was put into the queue
abbrev pub Entry : Type 0
Entry = ℕ × ℕ

-- the sums so far by node, what waits, and whether a sum was left out because it doesn't fit
pub record State : Type 0 where
  pub sums : List ℕ
  pub queue : List Entry
  pub cut : Bool

-- an entry of the queue, as a number and a node
abbrev pub entry_of : {N : Type 0} → (N → ℕ) → Reverse (N × ℕ) → Entry
entry_of number entry = (number entry.0.0, entry.0.1)

-- what a board stands for
abbrev pub state_of : {N : Type 0} → (N → ℕ) → Board N → State
state_of number board = record {
  sums = map number board.sums;
  queue = map (entry_of number) (heap_items board.queue);
  cut = board.cut;
}

-- the number that is kept at a node
abbrev pub at : State → ℕ → ℕ
at state node = get_or state.sums node 0

-- a node takes a lesser sum, and waits with it
pub record Lowers (old new : State) (node sum : ℕ) : Type 0 where
  pub sums : new.sums ≡ set old.sums node sum
  pub queue : IsPermutation ((sum, node) ∷ old.queue) new.queue
  pub cut : new.cut ≡ old.cut

-- an entry leaves the queue
pub record Pops (old new : State) (sum node : ℕ) : Type 0 where
  pub sums : new.sums ≡ old.sums
  pub queue : IsPermutation old.queue ((sum, node) ∷ new.queue)
  pub cut : new.cut ≡ old.cut

-- how many nodes have a sum
abbrev pub reached : ℕ → List ℕ → ℕ
reached far sums = count_by (λ sum. nat_lt sum far) sums

-- no sum is larger than so many prices may be as there are other nodes with a sum
abbrev pub AreFew : ℕ → State → Type 0
AreFew far state =
    (node : ℕ) → node < length state.sums → at state node < far →
    at state node + PRICE_BOUND ≤ reached far state.sums * PRICE_BOUND

-- the sums so far are those of walks, and what waits are nodes
pub record IsState (roads : Roads) (prices : Prices) (target far : ℕ) (state : State) : Type 0 where
  pub counted : length state.sums ≡ roads.nodes
  pub within : (node : ℕ) → node < roads.nodes → at state node ≤ far
  pub target_is : at state target ≡ 0
  pub walks : (node : ℕ) → node < roads.nodes → at state node < far →
      HasWalk roads prices target node (at state node)
  pub waiting : (sum node : ℕ) → Contains state.queue (sum, node) → node < roads.nodes
  pub few : AreFew far state
  pub uncut : SUM_BOUND ≤ far → state.cut ≡ false

-- the sum before a link is no larger than its price and the sum behind it; and where no sum was left out,
-- there is one before the link where there is one behind it
pub record IsRelaxed (far : ℕ) (state : State) (before behind price : ℕ) : Type 0 where
  pub low : at state before ≤ at state behind + price
  pub near : state.cut ≡ false → at state behind < far → at state before < far

-- an open link is relaxed, or its end waits with its sum
abbrev pub IsDone : (roads : Roads) (prices : Prices) (far : ℕ) (state : State) (link : ℕ) → Type 0
IsDone roads prices far state link =
    (price : ℕ) → prices link ≡ Some price →
    IsRelaxed far state (roads.from link) (roads.to link) price ⊎ Contains state.queue
    (at state (roads.to link), roads.to link)

-- every open link is relaxed, or its end waits with its sum
abbrev pub AreDone : Roads → Prices → ℕ → State → Type 0
AreDone roads prices far state = (link : ℕ) → link < roads.links → IsDone roads prices far state link

-- a link is the way back of one that leaves a node, at this place or behind it
pub record IsLeft (roads : Roads) (node place link : ℕ) : Type 0 where
  pub found : ℕ
  pub late : place ≤ found
  pub within : found < length (out_links roads node)
  pub back : twin_of (get_or (out_links roads node) found 0) ≡ link

-- every open link is relaxed, or its end waits with its sum, or it is the way back of one that leaves a node,
-- at this place or behind it
abbrev pub AreDoneBefore : (roads : Roads) (prices : Prices) (far node place : ℕ) (state : State) → Type 0
AreDoneBefore roads prices far node place state =
    (link : ℕ) → link < roads.links → IsDone roads prices far state link ⊎ IsLeft roads node place link

-- what is still to do: each sum may fall, and each entry may leave the queue
abbrev pub work : State → ℕ
work state = 2 * sum state.sums + length state.queue

-- a link is done, and what was done stays so
pub record Relaxes (roads : Roads) (prices : Prices) (target far : ℕ) (old new : State) (link : ℕ) :
    Type 0 where
  pub state : IsState roads prices target far new
  pub done : IsDone roads prices far new link
  pub keeps : (other : ℕ) → other < roads.links → IsDone roads prices far old other →
      IsDone roads prices far new other
  pub falls : work new ≤ work old

-- the finding goes on: every open link is relaxed, or its end waits with its sum
pub record IsOpen (roads : Roads) (prices : Prices) (target far : ℕ) (state : State) : Type 0 where
  pub is_state : IsState roads prices target far state
  pub done : AreDone roads prices far state

-- the end of the finding: nothing waits, so every open link is relaxed, and a map has few nodes
pub record IsFinal (roads : Roads) (prices : Prices) (target far : ℕ) (state : State) : Type 0 where
  pub is_state : IsState roads prices target far state
  pub done : AreDone roads prices far state
  pub empty : length state.queue ≡ 0
  pub few_nodes : roads.nodes < 2 ^ 32

-- the finding ended at a radius: every open link is relaxed, or the sum behind it is no less than the radius
pub record IsEndedAt (roads : Roads) (prices : Prices) (target far radius : ℕ) (state : State) : Type 0 where
  pub is_state : IsState roads prices target far state
  pub fits : radius ≤ far
  pub done : (link price : ℕ) → link < roads.links → prices link ≡ Some price →
      (at state (roads.from link) ≤ at state (roads.to link) + price) ⊎ (radius ≤ at state (roads.to link))

-- the finding ended, at a radius or where nothing waits any more
abbrev pub IsEnded :
    (roads : Roads) (prices : Prices) (target far : ℕ) (radius : Option ℕ) (state : State) → Type 0
IsEnded roads prices target far None state = IsFinal roads prices target far state
IsEnded roads prices target far (Some radius) state = IsEndedAt roads prices target far radius state

-- nothing waits with less than a number
abbrev pub WaitNoLess : State → ℕ → Type 0
WaitNoLess state least = (sum node : ℕ) → Contains state.queue (sum, node) → least ≤ sum
