-- What serving the connections of a hall does to it and to its hub. This project's own rule.
use Rattle.std.specs.Prelude.{◌≡◌, ℕ, List, Option, Some}
use Rattle.edge_io.specs.Acts.{Act}
use Rattle.edge_io.specs.Hub.{HubSeen, IsLive, Tells}
use Rattle.hall.specs.Held.{AreAll}
use Rattle.hall.specs.Sends.{Closes, Sends, Serves, ServesEach}
use Rattle.hall.specs.State.{Connection, State, left_as}

-- ---- What the hub holds and tells

-- each connection that the hall holds is held by the hub, where its acts are told
abbrev pub AreLive : State → HubSeen → Type 0
AreLive s seen = (id : ℕ) (c : Connection) → s.known id ≡ Some c → IsLive seen.acts id

-- the hub told these acts, and no event failed
pub record Goes (old new : HubSeen) (acts : List Act) : Type 0 where
  pub tells : Tells old.acts new.acts acts
  pub faults : new.faults ≡ old.faults

-- ---- One connection, and all of them

-- a connection sent its piece, where it had one, and the hub told it
pub record SentPiece (id : ℕ) (c : Connection) (old : HubSeen) (left : Option Connection) (new : HubSeen) :
    Type 0 where
  pub acts : List Act
  pub sends : Sends id c acts left
  pub goes : Goes old new acts

-- a connection was closed where it was done, and the hub told it
pub record ClosedDone (id : ℕ) (c : Connection) (old : HubSeen) (left : Option Connection) (new : HubSeen) :
    Type 0 where
  pub acts : List Act
  pub closes : Closes id (Some c) acts left
  pub goes : Goes old new acts

-- a connection was served
pub record ServedOne (id : ℕ) (c : Connection) (old : HubSeen) (left : Option Connection) (new : HubSeen) :
    Type 0 where
  pub acts : List Act
  pub serves : Serves id c acts left
  pub goes : Goes old new acts

-- so was one that a state held
pub record ServedPeer (id : ℕ) (c : Connection) (s : State) (old : HubSeen) (left : State) (new : HubSeen) :
    Type 0 where
  pub known : s.known id ≡ Some c
  pub rest : Option Connection
  pub one : ServedOne id c old rest new
  pub left_is : left ≡ left_as s id rest

-- these connections were served, and each one that was held
pub record ServedEach (s : State) (old : HubSeen) (ids : List ℕ) (left : State) (new : HubSeen) : Type 0 where
  pub acts : List Act
  pub serves : ServesEach s ids acts left
  pub goes : Goes old new acts

pub record ServedAll (s : State) (old : HubSeen) (left : State) (new : HubSeen) : Type 0 where
  pub order : List ℕ
  pub all : AreAll s order
  pub each : ServedEach s old order left new
