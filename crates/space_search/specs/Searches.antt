-- A search over a space: what holds of all that it keeps. Crates above pass this word on and look no further;
-- what they read stands in what a search shows of itself. This project's own rule.
use Rattle.std.specs.Prelude.{ℕ, ◌+◌, ◌<◌, ◌≤◌, ◌^◌, length}
use Rattle.item_list.specs.Turns.{Says, Settles}
use Rattle.item_list.specs.declared.turn.Turn.{Turn}
use Rattle.space_search.specs.Books.{Books, books, IsLabel, Follows, IsSearch, IsClosed, Stands, IsFresh}
use Rattle.space_search.specs.Ends.{Ends}
use Rattle.space_search.specs.Rules.{Rules}
use Rattle.space_search.specs.Turns.{EndsSearch, IsClosedSoFar}
use Rattle.space_search.specs.View.{Held, held, view, view_of, labels_of, phase_after}
use Rattle.space_search.specs.declared.label.Label.{Label}
use Rattle.space_search.specs.declared.outcome.Outcome.{Outcome}
use Rattle.space_search.specs.declared.phase.Phase.{Phase}
use Rattle.space_search.specs.declared.phase.Phase.TheVariants.{New, Running, Ended, Failed}
use Rattle.space_search.specs.declared.search.Search.{Search}

-- the label that was found comes from a start or from a settled label
abbrev pub FoundFollows : {S : Type 0} → Rules S → Held S → Outcome ℕ → Type 0
FoundFollows {S} rules held =
    Ends (λ label. (goal : Label S) × IsLabel held.kept held.found goal × Follows rules held.kept label goal)
    (Unit {0}) (Unit {0})

-- what a search in this phase is: a new one has settled nothing; a running one is closed; one that ended is
-- what its answer says; of one that met want of memory nothing more is said
abbrev pub IsPhase : {S : Type 0} → Rules S → Held S → Phase → Type 0
IsPhase rules held New = IsFresh held.kept
IsPhase rules held Running = IsSearch rules held.kept × IsClosed rules held.kept
IsPhase rules held (Ended end) = EndsSearch rules (view_of held) end × FoundFollows rules held end
IsPhase rules held Failed = Unit {0}

-- the search is one over a space that answers by these rules
pub record IsSearchOf {S : Type 0} (rules : Rules S) (search : Search S) : Type 0 where
  pub small : search.limit < 2 ^ 32
  -- no more labels are settled than the limit allows
  pub within : length search.lists.settled.items ≤ search.limit
  -- the settled labels read right and are in order
  pub stands : Stands rules (books search.lists)
  -- what the search's phase says of it
  pub is_phase : IsPhase rules (held search) search.phase

-- what a search keeps after a turn that gave this answer, with the number of the label that it found
abbrev pub held_after : {S : Type 0} → ℕ → Books S → Turn (Unit {0}) (Outcome ℕ) × ℕ → Held S
held_after limit kept answer =
    record { limit = limit; kept = kept; found = answer.1; phase = phase_after answer.0 }

-- what a part of a turn that came to an end says
pub record Turns {S : Type 0} (rules : Rules S) (quota : ℕ) (before : Books S) (after : Held S)
    (turn : Turn (Unit {0}) (Outcome ℕ)) : Type 0 where
  pub kept : IsSearch rules after.kept
  pub closed : IsClosed rules after.kept
  pub ends : Says (λ _. IsClosedSoFar rules (view_of after)) (EndsSearch rules (view_of after)) turn
  pub goal : Says (λ _. Unit {0}) (FoundFollows rules after) turn
  pub counts : Settles (length before.settled + quota) (length after.kept.settled) turn

-- the label of this number can be read: it is a settled one of a search over some space, or the goal after
-- them
pub record IsReadable {S : Type 0} (search : Search S) (number : ℕ) : Type 0 where
  pub rules : Rules S
  pub of : IsSearchOf rules search
  pub within : number < length (labels_of (view search))
