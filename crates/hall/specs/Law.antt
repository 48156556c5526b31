-- Connections don't mix: what every run of a server gives to each connection. This project's own rule.
use Rattle.std.specs.Prelude.{◌≡◌, ℕ, Bool, true, false, List, [], ◌∷◌, ◌++◌}
use Rattle.edge_io.specs.Acts.{Act, Gave, OpensOnce, told}
use Rattle.edge_io.specs.declared.event.Event.TheVariants.{Ended}
use Rattle.hall.specs.Causes.{HasCause, OpensIn}
use Rattle.hall.specs.Held.{HasRoom, IsFull}
use Rattle.hall.specs.State.{Service, State, empty_hall}
use Rattle.session_answers.specs.Stored.{Stored}
use Rattle.hall.specs.Turns.{EventOf, Meets, Run}

-- ---- What came from a connection, and what it gets

-- these bytes stand at the front of those
abbrev pub IsFrontOf : List ℕ → List ℕ → Type 0
IsFrontOf front bytes = (rest : List ℕ) × (bytes ≡ front ++ rest)

-- the peer of a connection ended before any byte came from it
pub record EndsSilent (id : ℕ) (acts : List Act) : Type 0 where
  pub before : List Act
  pub bytes : List ℕ
  pub after : List Act
  pub acts_are : acts ≡ before ++ (Gave (Ended id) bytes ∷ after)
  pub none_came : (told id before).came ≡ []

-- a session got no byte, since its peer ended before any came from it
pub record WasSilent (meets : Meets) (id : ℕ) (acts : List Act) : Type 0 where
  pub since : List Act
  pub state : State
  pub opening : OpensIn meets id acts since state
  pub room : HasRoom state false
  pub ends : EndsSilent id since

-- there was no room for a connection when it opened: as many sessions were held, and as many connections
-- turned away, as may be
pub record HadNoRoom (meets : Meets) (id : ℕ) (acts : List Act) : Type 0 where
  pub since : List Act
  pub state : State
  pub opening : OpensIn meets id acts since state
  pub sessions_full : IsFull state false
  pub aways_full : IsFull state true

-- what was sent to a connection is a front of one frame that it has for a cause of this run; and it is the
-- whole frame where the connection was closed
pub record HasOwnFrame (service : Service) (meets : Meets) (id : ℕ) (acts : List Act) :
    Type 0 where
  pub frame : List ℕ
  pub cause : HasCause service meets id acts frame
  pub sent : IsFrontOf (told id acts).sent frame
  pub whole : (told id acts).closed ≡ true → (told id acts).sent ≡ frame

-- what a connection gets in a run of these events: nothing, while it isn't closed; nothing, since there was no
-- room for it or its peer ended before the first byte; or a front of its own frame
pub data GetsOwn (service : Service) (meets : Meets) (id : ℕ) (acts : List Act) :
    Type 0 where
  waits : (told id acts).sent ≡ [] → (told id acts).closed ≡ false → GetsOwn service meets id acts
  no_room : (told id acts).sent ≡ [] → HadNoRoom meets id acts → GetsOwn service meets id acts
  silent : (told id acts).sent ≡ [] → WasSilent meets id acts → GetsOwn service meets id acts
  own : HasOwnFrame service meets id acts → GetsOwn service meets id acts

-- ---- The law

-- connections don't mix: whatever a run from a hall without connections does, each connection gets its own
abbrev pub KeepsApart : Service → Type 0
KeepsApart service =
    (given : List Stored) (n : ℕ) (over : Bool) (acts : List Act) (new : State)
    (run : Run service (empty_hall given) n over acts new) → OpensOnce acts → (id : ℕ) →
    GetsOwn service (EventOf run.turns) id acts
