-- What a search shows of itself: its limit, how far it is, and the labels that can be read. This project's
-- own rule.
use Rattle.std.specs.List.{slice_get}
use Rattle.std.specs.Prelude.{ℕ, zero, suc, ◌≡◌, List, [], ◌∷◌, ◌++◌, Option, Some, None}
use Rattle.item_list.specs.declared.turn.Turn.{Turn}
use Rattle.item_list.specs.declared.turn.Turn.TheVariants.{More, Done}
use Rattle.space_search.specs.Books.{Books, books}
use Rattle.space_search.specs.declared.label.Label.{Label}
use Rattle.space_search.specs.declared.outcome.Outcome.{Outcome}
use Rattle.space_search.specs.declared.outcome.Outcome.TheVariants.{Found, NoWay, Budget}
use Rattle.space_search.specs.declared.phase.Phase.{Phase}
use Rattle.space_search.specs.declared.phase.Phase.TheVariants.{New, Running, Ended, Failed}
use Rattle.space_search.specs.declared.search.Search.{Search}

-- a label as a search shows it: a state, what a run to it costs, and that run's choices
pub record Reached (S : Type 0) : Type 0 where
  pub state : S
  pub cost : ℕ
  pub choices : List ℕ

-- what a search shows of itself
pub record View (S : Type 0) : Type 0 where
  -- the most labels that are settled
  pub limit : ℕ
  -- how far it is, with its last answer
  pub phase : Phase
  -- the settled labels, in the order in which they were settled
  pub settled : List (Reached S)
  -- the goal, where one was found
  pub goal : Option (Reached S)

-- the choices of a label that there may be
abbrev pub choices_in : {S : Type 0} → Option (Reached S) → List ℕ
choices_in None = []
choices_in (Some label) = label.choices

-- the choices before a label's own: none at a start, else those of the label at the place of its parent
abbrev pub choices_before : {S : Type 0} → List (Reached S) → ℕ → List ℕ
choices_before done zero = []
choices_before done (suc place) = choices_in (slice_get done place)

-- a label as it is shown, after those that were settled before it
abbrev pub reached : {S : Type 0} → List (Reached S) → Label S → Reached S
reached done label =
    record {
      state = label.state;
      cost = label.cost;
      choices = choices_before done label.parent ++ label.choice ∷ [];
    }

-- these labels as they are shown, after those that were settled before them
abbrev pub shown_from : {S : Type 0} → List (Reached S) → List (Label S) → List (Reached S)
shown_from done [] = done
shown_from done (label ∷ labels) = shown_from (done ++ reached done label ∷ []) labels

-- a label before a list, where there is one
abbrev pub consed : {S : Type 0} → Option (Label S) → List (Label S) → List (Label S)
consed None rest = rest
consed (Some label) rest = label ∷ rest

-- the labels of these numbers, in this order
abbrev pub pick : {S : Type 0} → List (Label S) → List ℕ → List (Label S)
pick labels [] = []
pick labels (number ∷ numbers) = consed (slice_get labels number) (pick labels numbers)

-- the settled labels, as they are shown
unfoldable pub settled_of : {S : Type 0} → Books S → List (Reached S)
settled_of kept = shown_from [] (pick kept.labels kept.settled)

-- a label that there may be, as it is shown after these
abbrev pub reached_by : {S : Type 0} → List (Reached S) → Option (Label S) → Option (Reached S)
reached_by done None = None
reached_by done (Some label) = Some (reached done label)

-- what a search keeps: its limit, its lists, the number of the label that was found, and how far it is
pub record Held (S : Type 0) : Type 0 where
  pub limit : ℕ
  pub kept : Books S
  pub found : ℕ
  pub phase : Phase

-- what a search keeps, as its own clauses see it
abbrev pub held : {S : Type 0} → Search S → Held S
held search =
    record { limit = search.limit; kept = books search.lists; found = search.found; phase = search.phase }

-- the goal that was found, as it is shown, by how far the search is
abbrev pub goal_of : {S : Type 0} → Held S → Phase → Option (Reached S)
goal_of held New = None
goal_of held Running = None
goal_of held (Ended (Found label)) = reached_by (settled_of held.kept) (slice_get held.kept.labels held.found)
goal_of held (Ended NoWay) = None
goal_of held (Ended Budget) = None
goal_of held Failed = None

-- what is shown of what a search keeps
abbrev pub view_of : {S : Type 0} → Held S → View S
view_of held =
    record {
      limit = held.limit;
      phase = held.phase;
      settled = settled_of held.kept;
      goal = goal_of held held.phase;
    }

-- what a search shows of itself
abbrev pub view : {S : Type 0} → Search S → View S
view search = view_of (held search)

-- a label that there may be, as a list
abbrev pub listed : {S : Type 0} → Option (Reached S) → List (Reached S)
listed None = []
listed (Some label) = label ∷ []

-- the labels that can be read, by their numbers: the settled ones, and the goal after them
abbrev pub labels_of : {S : Type 0} → View S → List (Reached S)
labels_of view = view.settled ++ listed view.goal

-- the label of this number can be read, and is this one
abbrev pub IsShown : {S : Type 0} → View S → ℕ → Reached S → Type 0
IsShown view number label = slice_get (labels_of view) number ≡ Some label

-- each of these labels keeps its place
abbrev pub KeepsPlaces : {S : Type 0} → List (Reached S) → List (Reached S) → Type 0
KeepsPlaces {S} before after =
    (place : ℕ) (label : Reached S) → slice_get before place ≡ Some label → slice_get after place ≡ Some label

-- how far a search is after this turn
abbrev pub phase_after : {N : Type 0} → Turn N (Outcome ℕ) → Phase
phase_after (More next) = Running
phase_after (Done end) = Ended end
