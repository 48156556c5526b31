-- What is true of every hall at any moment. This project's own rule.
use Rattle.std.specs.Prelude.{◌≡◌, ℕ, ◌≤◌, false, List, length, Some}
use Rattle.hall.specs.Allowed.{IsAllowed}
use Rattle.hall.specs.Held.{AreDifferent, IsAmong}
use Rattle.hall.specs.State.{Connection, Phase, Reading, Waits, Answered, Silent, Service, State}
use Rattle.session_answers.specs.Stored.{Stored}

-- what is true of a connection by how far it is: one that is read, or whose search waits, is a session; a
-- frame is allowed for its own connection, and no more bytes of it are sent than it has
abbrev pub IsSoundIn : Service → List Stored → Connection → Phase → Type 0
IsSoundIn service stored c Reading = (c.away ≡ false) × (c.ended ≡ false)
IsSoundIn service stored c (Waits due) = c.away ≡ false
IsSoundIn service stored c (Answered frame sent) = IsAllowed service stored c frame × (sent ≤ length frame)
IsSoundIn service stored c Silent = Unit {0}

-- the search of a connection waits
pub record IsWaiting (s : State) (id : ℕ) : Type 0 where
  pub c : Connection
  pub known : s.known id ≡ Some c
  pub due : ℕ
  pub phase : c.phase ≡ Waits due

-- these are the connections whose searches wait, none of them twice
pub record AreWaiting (s : State) (ids : List ℕ) : Type 0 where
  pub waits : (id : ℕ) → IsAmong id ids → IsWaiting s id
  pub once : AreDifferent ids
  pub whole : (id : ℕ) → IsWaiting s id → IsAmong id ids

-- each connection is as it may be, and those among the waiting are exactly those whose searches wait
pub record IsSound (service : Service) (s : State) : Type 0 where
  pub sound : (id : ℕ) (c : Connection) → s.known id ≡ Some c → IsSoundIn service s.stored c c.phase
  pub queued : AreWaiting s s.waiting
