-- This project's own rule: which connection is let go where no descriptor is left for one more.
use Rattle.std.specs.Prelude.{◌≡◌, ◌≢◌, ◌≤◌, ◌==◌, ◌||◌, not, ℕ, Bool, true, List, Option, Some, None, IfSome, if◌then◌else◌, nat_lt}
use Rattle.std.specs.BTreeMap.{BTreeMap, get, Updates}
use Rattle.std.specs.List.{list_any}
use Rattle.std.specs.Ordering.{nat_cmp}
use Rattle.edge_io.specs.declared.door.Door.{Door}
use Rattle.edge_io.specs.declared.event.Event.{Event}
use Rattle.edge_io.specs.declared.event.Event.TheVariants.{Opened, Bytes, Ended, Lost, Quiet, Over}
use Rattle.edge_io.specs.declared.idle.Idle.{Idle}
use Rattle.edge_io.specs.declared.peers.Peer.{Peer}
use Rattle.edge_io.specs.declared.replies.Arrival.{Arrival}
use Rattle.edge_io.specs.declared.replies.Arrival.TheVariants as arrivals

-- a connection is idle: nothing of it waits in line, and it isn't one of those that wait for an answer
abbrev pub is_idle : {S : Type 0} → List ℕ → ℕ → Peer S → Bool
is_idle waiting id peer = not (peer.in_line || list_any (λ j. j == id) waiting)

-- a connection is held and idle
pub record IsIdle {S : Type 0} (held : BTreeMap ℕ (Peer S)) (waiting : List ℕ) (id : ℕ) (peer : Peer S) : Type 0 where
  pub is : get nat_cmp held id ≡ Some peer
  pub idle : is_idle waiting id peer ≡ true

-- this one of those that are held was idle longest, since none that is idle was used before it; or none is idle
abbrev pub IsIdleLongest : {S : Type 0} → BTreeMap ℕ (Peer S) → List ℕ → Option ℕ → Type 0
IsIdleLongest {S} held waiting None = (id : ℕ) (peer : Peer S) → IsIdle held waiting id peer → ⊥
IsIdleLongest {S} held waiting (Some id) =
    (peer : Peer S) × IsIdle held waiting id peer ×
    ((other : ℕ) (q : Peer S) → IsIdle held waiting other q → peer.used ≤ q.used)

-- of the one that was idle longest so far, where there is one, and one more: which of them was idle longer
abbrev pub longer : Option Idle → Idle → Idle
longer None one = one
longer (Some best) one = if nat_lt one.used best.used then one else best

-- the one that was idle longest so far, after one more that may be idle
abbrev pub after_one : {S : Type 0} → List ℕ → Option Idle → ℕ → Peer S → Option Idle
after_one waiting best id peer =
    if is_idle waiting id peer then Some (longer best (record { id = id; used = peer.used })) else best

-- the connection that was idle longest is held no more, and its loss is told; where none is idle nothing is told,
-- and all stay
abbrev pub LetsIdleGo : {S : Type 0} → (old : BTreeMap ℕ (Peer S)) → List ℕ → (new : BTreeMap ℕ (Peer S)) → Option Event → Type 0
LetsIdleGo old waiting new None = IsIdleLongest old waiting None × (new ≡ old)
LetsIdleGo old waiting new (Some event) =
    (id : ℕ) × (event ≡ Lost id) × IsIdleLongest old waiting (Some id) × Updates nat_cmp old new id None

-- what is told at the door: that the connection was opened whose number is the last one, or that the one was lost
-- that was idle longest, which is held no more
abbrev pub TellsDoor : {S : Type 0} → (old : BTreeMap ℕ (Peer S)) → List ℕ → (new : BTreeMap ℕ (Peer S)) → (last : ℕ) → Event → Type 0
TellsDoor old waiting new last (Opened id) = id ≡ last
TellsDoor old waiting new last (Bytes id n) = ⊥
TellsDoor old waiting new last (Ended id) = ⊥
TellsDoor old waiting new last (Lost id) = IsIdleLongest old waiting (Some id) × Updates nat_cmp old new id None
TellsDoor old waiting new last Quiet = ⊥
TellsDoor old waiting new last Over = ⊥

-- what follows from a try to take in a connection, where so many are left that were closed: one that came is told
-- as opened, if it is held; where no descriptor is left, the one that was idle longest is let go, but none where
-- one goes that was closed; and else nothing is told, and all stay
abbrev pub AdmitsBy : {A S : Type 0} → Arrival A → (left : ℕ) → (old : BTreeMap ℕ (Peer S)) → List ℕ → (new : BTreeMap ℕ (Peer S)) → (last : ℕ) → Option Event → Type 0
AdmitsBy (arrivals.Came came) left old waiting new last told = IfSome told (λ e. e ≡ Opened last)
AdmitsBy arrivals.NoneNow left old waiting new last told = (told ≡ None) × (new ≡ old)
AdmitsBy arrivals.Again left old waiting new last told = (told ≡ None) × (new ≡ old)
AdmitsBy arrivals.Full left old waiting new last told =
    (left ≢ 0 → (told ≡ None) × (new ≡ old)) × (left ≡ 0 → LetsIdleGo old waiting new told)

-- the door stands in line, where there is one
abbrev pub IsInLine : Option Door → Type 0
IsInLine None = Unit {0}
IsInLine (Some door) = door.in_line ≡ true
