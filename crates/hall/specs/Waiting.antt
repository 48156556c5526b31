-- Each search that waits comes to its end: what every run of a server gives to a session that waits, and
-- what one run gave. This project's own rule.
use Rattle.std.specs.Prelude.{◌≡◌, ◌⊎◌, ℕ, suc, ◌+◌, ◌*◌, ◌≤◌, List, Some}
use Rattle.edge_io.specs.Acts.{Act}
use Rattle.edge_io.specs.declared.event.Event.{Event}
use Rattle.edge_io.specs.declared.event.Event.TheVariants.{Lost}
use Rattle.hall.specs.Held.{most_sessions}
use Rattle.hall.specs.State.{Connection, Service, State, Waits, empty_hall, with_frame}
use Rattle.hall.specs.Steps.{AsksFor}
use Rattle.hall.specs.Turns.{Turns}
use Rattle.hall.specs.Turns.Turns.{none, more}
use Rattle.route_http.specs.Asked.{Asked}
use Rattle.session_answers.specs.Searches.{turns_for}
use Rattle.session_answers.specs.Stored.{Stored}
use Rattle.route_engine.specs.declared.aim.Aim.{Aim}

-- ---- The end of a wait

-- a turn ends the wait of a session by its event or by its turn of work: the session is lost, or it is given a
-- frame
pub data EndsWait (id : ℕ) (c : Connection) (event : Event) (worked : State) : Type 0 where
  lost : event ≡ Lost id → EndsWait id c event worked
  answered : {frame : List ℕ} → worked.known id ≡ Some (with_frame c frame) → EndsWait id c event worked

-- so does one of these turns
abbrev pub EndsAmong :
    (service : Service) (s : State) (id : ℕ) (c : Connection) (n : ℕ) (acts : List Act) (new : State) →
    Turns service s n acts new → Type 0
EndsAmong service s id c n acts new none = ⊥
EndsAmong service s id c n acts new (more {n = before} {acts = first} {between} {event} turns turn) =
    EndsAmong service s id c before first between turns ⊎ EndsWait id c event turn.worked

-- ---- The waits that follow

-- the most turns that a session waits for its frame, by the map and by what it asks: it has a turn of work in as
-- many turns as sessions may be held, and it has as many as its search goes on for, and one more
abbrev pub most_turns : Service → Aim → Asked → ℕ
most_turns service aim asked = most_sessions * suc (turns_for service.world aim asked)

-- a session that waits asks for something, and whatever turns follow, so many of them end its wait: it gets a
-- frame or is lost
pub record EndsInTime (service : Service) (s : State) (id : ℕ) (c : Connection) : Type 0 where
  pub aim : Aim
  pub asked : Asked
  pub asks : AsksFor service c aim asked
  pub ends : (m : ℕ) (acts : List Act) (new : State) (turns : Turns service s m acts new) →
      most_turns service aim asked ≤ m → EndsAmong service s id c m acts new turns

-- so it is for each session that waits
abbrev pub AllEndInTime : Service → State → Type 0
AllEndInTime service s = (id due : ℕ) (c : Connection) → s.known id ≡ Some c → c.phase ≡ Waits due →
    EndsInTime service s id c

-- ---- The waits of one run

-- after so many of these turns the hall held this
abbrev pub HeldAfter :
    {service : Service} {s new : State} {n : ℕ} {acts : List Act} → Turns service s n acts new → ℕ → State →
    Type 0
HeldAfter {s} none k state = (k ≡ 0) × (state ≡ s)
HeldAfter (more {n} {new} turns turn) k state = HeldAfter turns k state ⊎ ((k ≡ suc n) × (state ≡ new))

-- of these turns one behind the first so many ended the wait of a session
abbrev pub EndedSince :
    (id : ℕ) (c : Connection) (k : ℕ) {service : Service} {s new : State} {n : ℕ} {acts : List Act} →
    Turns service s n acts new → Type 0
EndedSince id c k none = ⊥
EndedSince id c k (more {n} {event} turns turn) =
    EndedSince id c k turns ⊎ ((k ≤ n) × EndsWait id c event turn.worked)

-- a session that waited after so many of these turns asked for something; and where so many more turns were
-- made as what it asks allows, one of these ended its wait
pub record EndedInTime {service : Service} {s new : State} {n : ℕ} {acts : List Act}
    (turns : Turns service s n acts new) (k id : ℕ) (c : Connection) : Type 0 where
  pub aim : Aim
  pub asked : Asked
  pub asks : AsksFor service c aim asked
  pub ended : k + most_turns service aim asked ≤ n → EndedSince id c k turns

-- in these turns no search went on for ever: so it was for each session that waited after some of them
abbrev pub EndedEachWait :
    {service : Service} {s new : State} {n : ℕ} {acts : List Act} → Turns service s n acts new → Type 0
EndedEachWait turns =
    (k : ℕ) (state : State) → HeldAfter turns k state → (id due : ℕ) (c : Connection) →
    state.known id ≡ Some c → c.phase ≡ Waits due → EndedInTime turns k id c

-- ---- The law

-- no search goes on for ever: after any turns from a hall without connections, each session that waits is
-- answered or lost in time
abbrev pub EndsEachWait : Service → Type 0
EndsEachWait service =
    (given : List Stored) (n : ℕ) (acts : List Act) (s : State) → Turns service (empty_hall given) n acts s →
    AllEndInTime service s
