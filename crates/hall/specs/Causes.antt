-- What of a run fixed the frame of a connection; the events of the run are those that `meets` tells. This
-- project's own rule.
use Rattle.std.specs.Prelude.{◌≡◌, ℕ, Bool, true, false, List, [], ◌∷◌, ◌++◌}
use Rattle.edge_io.specs.Acts.{Act, Gave, is_event_of, told}
use Rattle.edge_io.specs.declared.event.Event.{Event}
use Rattle.edge_io.specs.declared.event.Event.TheVariants.{Opened}
use Rattle.hall.specs.Allowed.{IsRowOf}
use Rattle.hall.specs.Held.{HasRoom, IsFull}
use Rattle.hall.specs.State.{Service, State}
use Rattle.hall.specs.Steps.{full_frame, memory_frame}
use Rattle.hall.specs.Turns.{Meets}
use Rattle.session_answers.specs.Stored.{Stored}
use Rattle.session_answers.specs.Verdicts.{IsVerdict}
use Rattle.session_answers.specs.declared.verdict.Verdict.TheVariants.{Undecided, NoByte}

-- a connection was opened among these acts, and those are the acts since
pub record OpensThen (id : ℕ) (acts since : List Act) : Type 0 where
  pub before : List Act
  pub bytes : List ℕ
  pub acts_are : acts ≡ before ++ (Gave (Opened id) bytes ∷ since)

-- it was opened by an event of the run, which met this state
pub record OpensIn (meets : Meets) (id : ℕ) (acts since : List Act) (state : State) : Type 0 where
  pub opens : OpensThen id acts since
  pub stepped : State
  pub met : meets opens.before state (Opened id) opens.bytes stepped

-- an event of a connection, after these acts since it opened, came when nothing was fixed by what came
-- before; these are the bytes that came up to it and with it, and whether the peer ended by then
pub record HearsIn (id : ℕ) (before : List Act) (event : Event) (given bytes : List ℕ) (ended : Bool) :
    Type 0 where
  pub own : is_event_of id event ≡ true
  pub undecided : IsVerdict (told id before).came (told id before).ended Undecided
  pub bytes_are : bytes ≡ (told id (before ++ (Gave event given ∷ []))).came
  pub ended_is : ended ≡ (told id (before ++ (Gave event given ∷ []))).ended

-- what a session gets was decided by an event of the run: there was room for it when it opened; the event met
-- this state, and these profiles were stored by its step; and so much came from the session since it opened,
-- up to the event and with it
pub record IsDecidedIn (meets : Meets) (id : ℕ) (acts : List Act) (state : State) (bytes : List ℕ) (ended :
    Bool) (added : List Stored) : Type 0 where
  pub since : List Act
  pub opened_in : State
  pub opening : OpensIn meets id acts since opened_in
  pub room : HasRoom opened_in false
  pub before : List Act
  pub event : Event
  pub given : List ℕ
  pub after : List Act
  pub since_are : since ≡ before ++ (Gave event given ∷ after)
  pub hears : HearsIn id before event given bytes ended
  pub stepped : State
  pub met : meets (opening.opens.before ++ (Gave (Opened id) opening.opens.bytes ∷ before)) state event given
      stepped
  pub stores : stepped.stored ≡ state.stored ++ added

-- why a connection has this frame: it opened while as many sessions were held as may be, and fewer were
-- turned away; or it is a session for whose answer there was no memory, which sent a byte or didn't end; or
-- its frame is the row of its request, by the profiles that were stored when that was decided
pub data HasCause (service : Service) (meets : Meets) (id : ℕ) (acts : List Act) : List ℕ → Type 0 where
  away :
      {since : List Act} {state : State} → OpensIn meets id acts since state → IsFull state false →
      HasRoom state true → HasCause service meets id acts full_frame
  memory :
      {state : State} {bytes : List ℕ} {ended : Bool} → IsDecidedIn meets id acts state bytes ended [] →
      (IsVerdict bytes ended NoByte → ⊥) → HasCause service meets id acts memory_frame
  row :
      {state : State} {bytes frame : List ℕ} {ended : Bool} {added : List Stored} →
      IsDecidedIn meets id acts state bytes ended added →
      IsRowOf service state.stored bytes ended frame added → HasCause service meets id acts frame
