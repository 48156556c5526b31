-- What one `serve` does to a hall and a hub, and why it ends. This project's own rule.
use Rattle.std.specs.Prelude.{◌≡◌, ℕ, ◌<◌, Bool, true, false, List, [], ◌∷◌, Option, Some, None}
use Rattle.edge_io.specs.Acts.{Act, Gave, OpensOnce, is_end_of}
use Rattle.edge_io.specs.Faults.{CountRose}
use Rattle.edge_io.specs.Hub.{HubSeen, IsFresh, IsLive, Tells}
use Rattle.edge_io.specs.declared.event.Event.{Event}
use Rattle.edge_io.specs.declared.event.Event.TheVariants as events
use Rattle.hall.specs.Serving.{Goes}
use Rattle.hall.specs.State.{Connection, Service, State}
use Rattle.hall.specs.Steps.{Step}
use Rattle.hall.specs.Turns.{Run, Turn, Turns, shut}
use Rattle.hall.specs.declared.serve_end.ServeEnd.{ServeEnd}
use Rattle.hall.specs.declared.serve_end.ServeEnd.TheVariants as why

-- ---- What the hub tells

-- no connection is opened twice, where acts are told
abbrev pub OpenOnceIn : Option (List Act) → List Act → Type 0
OpenOnceIn None acts = Unit {0}
OpenOnceIn (Some before) acts = OpensOnce acts

-- ---- One `serve`

-- why it ends after so many whole turns, of at most so many: the last event came; all turns are spent and
-- none of their events was the last; or the hub failed to give an event
abbrev pub EndsBy : ServeEnd → (turns n : ℕ) (over : Bool) (old new : HubSeen) → Type 0
EndsBy why.Over turns n over old new = (n < turns) × (over ≡ true) × (new.faults ≡ old.faults)
EndsBy why.TurnsSpent turns n over old new = (n ≡ turns) × (over ≡ false) × (new.faults ≡ old.faults)
EndsBy why.HubFault turns n over old new = (n < turns) × (over ≡ false) × CountRose old.faults new.faults

-- what one `serve` of at most so many turns does: all that the hub told since then is a run from what the
-- hall held to what it holds now
pub record Served (service : Service) (turns : ℕ) (s : State) (old : HubSeen) (end : ServeEnd) (left : State)
    (new : HubSeen) : Type 0 where
  pub n : ℕ
  pub over : Bool
  pub acts : List Act
  pub run : Run service s n over acts left
  pub tells : Tells old.acts new.acts acts
  pub once : OpenOnceIn old.acts acts
  pub ends : EndsBy end turns n over old new

-- ---- Its parts

-- an event was heard that the hall doesn't know yet: the hub holds whom it opened, and all that it held but
-- whom it ended
pub record Heard (s : State) (seen : HubSeen) (event : Event) : Type 0 where
  pub opened : (id : ℕ) → event ≡ events.Opened id → IsLive seen.acts id
  pub others : (id : ℕ) (c : Connection) → s.known id ≡ Some c → is_end_of id (Gave event []) ≡ false →
      IsLive seen.acts id

-- the hall took an event, and whom it has no room for is closed
pub record Stepped (service : Service) (s : State) (old : HubSeen) (event : Event) (bytes : List ℕ) (left :
    State) (new : HubSeen) : Type 0 where
  pub none : Option ℕ
  pub step : Step service s event bytes left none
  pub goes : Goes old new (shut none)

-- a turn was taken after its event
pub record Turned (service : Service) (s : State) (old : HubSeen) (event : Event) (bytes : List ℕ) (left :
    State) (new : HubSeen) : Type 0 where
  pub acts : List Act
  pub turn : Turn service s event bytes (Gave event bytes ∷ acts) left
  pub goes : Goes old new acts

-- a whole turn, with its event
pub record TookTurn (service : Service) (s : State) (old : HubSeen) (left : State) (new : HubSeen) :
    Type 0 where
  pub event : Event
  pub bytes : List ℕ
  pub acts : List Act
  pub turn : Turn service s event bytes acts left
  pub fresh : IsFresh old.acts event
  pub goes : Goes old new acts

-- what a turn comes to, which ends the server or not
abbrev pub TurnComesTo : (service : Service) (s : State) (old : HubSeen) → Option ServeEnd → (left : State)
    (new : HubSeen) → Type 0
TurnComesTo service s old None left new = TookTurn service s old left new
TurnComesTo service s old (Some why.Over) left new = (left ≡ s) × Goes old new (Gave events.Over [] ∷ [])
TurnComesTo service s old (Some why.TurnsSpent) left new = ⊥
TurnComesTo service s old (Some why.HubFault) left new = (left ≡ s) × Tells old.acts new.acts [] ×
    CountRose old.faults new.faults

-- so many turns were taken
pub record TookTurns (service : Service) (s : State) (old : HubSeen) (n : ℕ) (left : State) (new : HubSeen) :
    Type 0 where
  pub acts : List Act
  pub turns : Turns service s n acts left
  pub once : OpenOnceIn old.acts acts
  pub goes : Goes old new acts
