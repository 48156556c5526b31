-- The turns of a server: how all connections are served, and a run of turns over a hub. This project's own
-- rule.
use Rattle.std.specs.Prelude.{◌≡◌, ◌≢◌, ◌⊎◌, ℕ, suc, Bool, true, false, List, [], ◌∷◌, ◌++◌, Option, Some, None}
use Rattle.edge_io.specs.Acts.{Act, Gave, Closed}
use Rattle.edge_io.specs.declared.event.Event.{Event}
use Rattle.edge_io.specs.declared.event.Event.TheVariants.{Over}
use Rattle.hall.specs.Held.{AreAll}
use Rattle.hall.specs.Sends.{ServesEach}
use Rattle.hall.specs.State.{Service, State}
use Rattle.hall.specs.Steps.{Step, Works}

-- ---- A turn

-- the acts of closing whom there is no room for
abbrev pub shut : Option ℕ → List Act
shut None = []
shut (Some id) = Closed id ∷ []

-- one turn after an event that isn't the last: the step; an opened connection that isn't held is closed;
-- work; and then each connection that is held is served once, in any order
pub record Turn (service : Service) (s : State) (event : Event) (bytes : List ℕ) (acts : List Act) (new :
    State) : Type 0 where
  pub goes_on : event ≢ Over
  pub stepped : State
  pub at_once : Option ℕ
  pub step : Step service s event bytes stepped at_once
  pub worked : State
  pub work : Works service stepped worked
  pub order : List ℕ
  pub all : AreAll worked order
  pub served : List Act
  pub serves : ServesEach worked order served new
  pub acts_are : acts ≡ Gave event bytes ∷ shut at_once ++ served

-- so many turns one after the other
pub data Turns (service : Service) (s : State) : ℕ → List Act → State → Type 0 where
  none : Turns service s 0 [] s
  more :
      {n : ℕ} {acts own : List Act} {between new : State} {event : Event} {bytes : List ℕ} →
      Turns service s n acts between → Turn service between event bytes own new →
      Turns service s (suc n) (acts ++ own) new

-- a run: so many turns, and then, where it is over, the last event
abbrev pub last_act : Bool → List Act
last_act false = []
last_act true = Gave Over [] ∷ []

pub record Run (service : Service) (s : State) (n : ℕ) (over : Bool) (acts : List Act) (new : State) :
    Type 0 where
  pub turned : List Act
  pub turns : Turns service s n turned new
  pub acts_are : acts ≡ turned ++ last_act over

-- ---- Events of a run

-- what is told of an event of a run: the acts before it, what the hall held then, the event with the bytes
-- that came, and what the hall held after its step
abbrev pub Meets : Type 1
Meets = (so_far : List Act) (state : State) (event : Event) (given : List ℕ) (stepped : State) → Type 0

-- the events of turns
abbrev pub EventOf :
    {service : Service} {s new : State} {n : ℕ} {acts : List Act} → Turns service s n acts new → Meets
EventOf none so_far state event given stepped = ⊥
EventOf (more {acts} {between} {event = latest} {bytes} turns turn) so_far state event given stepped =
    EventOf turns so_far state event given stepped
    ⊎ ((so_far ≡ acts) × (state ≡ between) × (event ≡ latest) × (given ≡ bytes) × (stepped ≡ turn.stepped))
