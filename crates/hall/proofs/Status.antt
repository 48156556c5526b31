-- How one connection stands after some acts: the words of the induction over a run, of which `meets` are the events.
use Rattle.std.proofs.Common.{◌≡◌, ℕ, Bool, true, false, List, [], ◌++◌, length, take, Option, Some, None}
use Rattle.edge_io.specs.Acts.{Act, told}
use Rattle.hall.specs.Causes.{HasCause, IsDecidedIn, OpensIn}
use Rattle.hall.specs.Held.{HasRoom}
use Rattle.hall.specs.Law.{GetsOwn, WasSilent}
use Rattle.hall.specs.State.{Answered, Connection, Phase, Reading, Service, Silent, State, Waits}
use Rattle.hall.specs.Turns.{Meets}
use Rattle.session_answers.specs.Stored.{Stored}
use Rattle.session_answers.specs.Verdicts.{IsVerdict}
use Rattle.session_answers.specs.declared.verdict.Verdict.TheVariants.{Undecided, NoByte}

-- of a session that is read all that came since it opened is kept, and nothing is fixed by that
pub record IsRead (meets : Meets) (id : ℕ) (acts : List Act) (bytes : List ℕ) (ended : Bool) : Type 0 where
  pub since : List Act
  pub opened_in : State
  pub opening : OpensIn meets id acts since opened_in
  pub room : HasRoom opened_in false
  pub kept : bytes ≡ (told id since).came
  pub ends : ended ≡ (told id since).ended
  pub undecided : IsVerdict bytes ended Undecided

-- the request of a session that waits was decided, which stored nothing, and what was stored then stands in front of what is stored
pub record IsAsked (meets : Meets) (stored : List Stored) (id : ℕ) (acts : List Act) (bytes : List ℕ) (ended : Bool)
    (before : Option ℕ) : Type 0 where
  pub state : State
  pub decided : IsDecidedIn meets id acts state bytes ended []
  pub some : IsVerdict bytes ended NoByte → ⊥
  pub counts : before ≡ Some (length state.stored)
  pub rest : List Stored
  pub grown : stored ≡ state.stored ++ rest

-- what was told of a connection by how far it is: one that is read, or waits, got nothing; one with a frame, which has its cause, got
-- so many first bytes of it; one that ended without a byte got nothing
abbrev pub FitsPhase : Service → Meets → List Stored → ℕ → List Act → Connection → Phase → Type 0
FitsPhase service meets stored id acts c Reading = IsRead meets id acts c.bytes c.ended × ((told id acts).sent ≡ [])
FitsPhase service meets stored id acts c (Waits due) =
    IsAsked meets stored id acts c.bytes c.ended c.before × ((told id acts).sent ≡ [])
FitsPhase service meets stored id acts c (Answered frame sent) =
    HasCause service meets id acts frame × ((told id acts).sent ≡ take sent frame)
FitsPhase service meets stored id acts c Silent = WasSilent meets id acts × ((told id acts).sent ≡ [])

-- a connection is held, and what is known of it fits
pub record IsHeldSo (service : Service) (meets : Meets) (stored : List Stored) (id : ℕ) (acts : List Act)
    (c : Connection) : Type 0 where
  pub opened : (told id acts).opened ≡ true
  pub unclosed : (told id acts).closed ≡ false
  pub by_phase : FitsPhase service meets stored id acts c c.phase

-- no event opened a connection, and it got nothing
pub record IsNew (id : ℕ) (acts : List Act) : Type 0 where
  pub unopened : (told id acts).opened ≡ false
  pub none : (told id acts).sent ≡ []
  pub unclosed : (told id acts).closed ≡ false

-- how a connection stands of which this is known: it is new, it is held, or it was opened and is held no more
pub data Stands (service : Service) (meets : Meets) (stored : List Stored) (id : ℕ) (acts : List Act) :
    Option Connection → Type 0 where
  unheard : IsNew id acts → Stands service meets stored id acts None
  held : {c : Connection} → IsHeldSo service meets stored id acts c → Stands service meets stored id acts (Some c)
  gone : (told id acts).opened ≡ true → GetsOwn service meets id acts → Stands service meets stored id acts None

-- so stands each connection
abbrev pub AllStand : Service → Meets → State → List Act → Type 0
AllStand service meets s acts = (id : ℕ) → Stands service meets s.stored id acts (s.known id)
