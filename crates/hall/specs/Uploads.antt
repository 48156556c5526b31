-- What is stored in a run: the uploads that were accepted, and nothing else. This project's own rule.
use Rattle.std.specs.Prelude.{◌≡◌, ℕ, Bool, List, [], ◌∷◌, ◌++◌, Some}
use Rattle.edge_io.specs.Acts.{Act, OpensOnce}
use Rattle.edge_io.specs.declared.event.Event.{Event}
use Rattle.hall.specs.Causes.{HearsIn, OpensThen}
use Rattle.hall.specs.State.{Answered, Connection, Reading, Service, State, empty_hall}
use Rattle.hall.specs.Steps.{uploaded}
use Rattle.hall.specs.Turns.{Run, Turns}
use Rattle.hall.specs.Turns.Turns.{none, more}
use Rattle.route_http.specs.declared.span.Span.{Span}
use Rattle.session_answers.specs.Stored.{Stored}
use Rattle.session_answers.specs.Verdicts.{IsVerdict, part}
use Rattle.session_answers.specs.declared.verdict.Verdict.TheVariants.{Upload}

-- ---- An accepted upload

-- a connection that was read has this frame now
pub record GetsFrame (s new : State) (id : ℕ) (frame : List ℕ) : Type 0 where
  pub old : Connection
  pub was_known : s.known id ≡ Some old
  pub reading : old.phase ≡ Reading
  pub now : Connection
  pub known : new.known id ≡ Some now
  pub answered : now.phase ≡ Answered frame 0

-- an event, after these acts, decided an upload by what came from its connection since that opened; by the
-- profiles that were stored it comes to this one; and the connection has the frame that tells so
pub record Accepts (service : Service) (s stepped : State) (so_far : List Act) (event : Event) (given :
    List ℕ) (profile : Stored) : Type 0 where
  pub id : ℕ
  pub since : List Act
  pub opens : OpensThen id so_far since
  pub bytes : List ℕ
  pub ended : Bool
  pub hears : HearsIn id since event given bytes ended
  pub span : Span
  pub upload : IsVerdict bytes ended (Upload span)
  pub adds : (uploaded service s.stored (part bytes span)).added ≡ profile ∷ []
  pub gets : GetsFrame s stepped id (uploaded service s.stored (part bytes span)).frame

-- what an event stores, after these acts: the profile of the upload that it accepted; or nothing, where it
-- accepted none
pub data Adds (service : Service) (s stepped : State) (so_far : List Act) (event : Event) (given : List ℕ) :
    List Stored → Type 0 where
  one :
      {profile : Stored} → Accepts service s stepped so_far event given profile →
      Adds service s stepped so_far event given (profile ∷ [])
  nothing :
      ((profile : Stored) → Accepts service s stepped so_far event given profile → ⊥) →
      Adds service s stepped so_far event given []

-- ---- The law

-- these are the profiles of the uploads that turns accepted, in their order
abbrev pub AreAccepted :
    {service : Service} {s new : State} {n : ℕ} {acts : List Act} → Turns service s n acts new →
    List Stored → Type 0
AreAccepted none profiles = profiles ≡ []
AreAccepted {service} (more {acts} {between} {event} {bytes} turns turn) profiles =
    (earlier added : List Stored) × AreAccepted turns earlier ×
    Adds service between turn.stepped acts event bytes added × (profiles ≡ earlier ++ added)

-- what is stored after a run is what was stored before it, and then the profiles of the uploads that it
-- accepted
pub record GrowsByUploads {service : Service} {s new : State} {n : ℕ} {over : Bool} {acts : List Act}
    (run : Run service s n over acts new) : Type 0 where
  pub profiles : List Stored
  pub accepted : AreAccepted run.turns profiles
  pub stored : new.stored ≡ s.stored ++ profiles

-- so it is in every run from a hall without connections
abbrev pub StoresUploads : Service → Type 0
StoresUploads service =
    (given : List Stored) (n : ℕ) (over : Bool) (acts : List Act) (new : State)
    (run : Run service (empty_hall given) n over acts new) → OpensOnce acts → GrowsByUploads run
