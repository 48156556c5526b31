-- What the parts of a hall stand for, for the parts alone (this project's own rule).
use Rattle.std.specs.Prelude.{◌≡◌, ◌≢◌, ◌⊎◌, ℕ, ◌+◌, ◌<◌, ◌≤◌, Bool, true, false, List, [], ◌∷◌, ◌++◌, length, take, drop, map, slice_get, Option, Some, None}
use Rattle.std.specs.Vec.{vec_capacity}
use Rattle.hall.specs.Held.{count_at, most_sessions}
use Rattle.hall.specs.Sound.{IsSound}
use Rattle.hall.specs.State.{Connection, Phase, Reading, Waits, Answered, Silent, Service, State, waits_as}
use Rattle.hall.specs.Steps.{GoesOn, Takes, full_frame, memory_frame}
use Rattle.hall.specs.View.{Entry, known_at}
use Rattle.hall.specs.declared.desk.Desk.{Desk}
use Rattle.hall.specs.declared.room.Room.{Room}
use Rattle.hall.specs.declared.peer.Frame.{Frame}
use Rattle.hall.specs.declared.peer.Frame.TheVariants as frames
use Rattle.hall.specs.declared.peer.Phase.{Phase as Kept}
use Rattle.hall.specs.declared.peer.Phase.TheVariants as phases
use Rattle.hall.specs.declared.peer.Peer.{Peer}
use Rattle.route_http.specs.declared.span.Span.{Span}
use Rattle.route_ready.specs.World.{world_of}
use Rattle.session_answers.specs.Jobs.{AreKept, IsJobOf}
use Rattle.session_answers.specs.Kept.{StayAwaited}
use Rattle.session_answers.specs.Profiles.{given_of, stored_of}
use Rattle.session_answers.specs.Received.{received_of}
use Rattle.session_answers.specs.Searches.{waits_for}
use Rattle.session_answers.specs.Sites.{Site, site_of}
use Rattle.session_answers.specs.Stored.{Stored}
use Rattle.session_answers.specs.Verdicts.{IsVerdict, part}
use Rattle.route_engine.specs.declared.aim.Aim.{Aim}
use Rattle.session_answers.specs.declared.kept.KeptProfiles.{KeptProfiles}
use Rattle.session_answers.specs.declared.search.Search.{Search}
use Rattle.session_answers.specs.declared.verdict.Verdict.TheVariants.{Query}

-- ---- What parts stand for

-- the bytes of a frame
abbrev pub frame_in : Frame → List ℕ
frame_in frames.Memory = memory_frame
frame_in frames.Full = full_frame
frame_in (frames.Own bytes) = bytes.items

-- how far a connection is
abbrev pub phase_in : Kept → Phase
phase_in phases.Reading = Reading
phase_in (phases.Waits pending) = Waits pending.left
phase_in (phases.Answered frame sent) = Answered (frame_in frame) sent
phase_in phases.Silent = Silent

-- what is known of a connection
abbrev pub connection_of : Peer → Connection
connection_of peer = record {
  away = peer.away;
  bytes = received_of peer.received;
  ended = peer.ended;
  before = peer.before;
  phase = phase_in peer.phase;
}

-- with its id
abbrev pub entry_of : Peer → Entry
entry_of peer = record { id = peer.id; known = connection_of peer }

-- the connections that are held
abbrev pub entries_of : List Peer → List Entry
entries_of peers = map (λ (peer : Peer). entry_of peer) peers

-- where requests are answered from a desk
abbrev pub site_at : Desk → Site
site_at desk = site_of (world_of desk.world) desk.labels

-- what the connections share that are answered from a desk, and the state of both
abbrev pub service_at : Desk → Service
service_at desk = record { world = world_of desk.world; given = given_of desk.profiles; labels = desk.labels }

abbrev pub state_at : Desk → List Entry → State
state_at desk entries = record {
  stored = stored_of desk.profiles;
  waiting = desk.queue.items;
  known =
      known_at entries;
}

abbrev pub service_in : Room → Service
service_in room = service_at room.desk

abbrev pub state_in : Room → State
state_in room = state_at room.desk (entries_of room.peers.items)

-- ---- Connections in the order of their ids

-- a connection is one of these
abbrev pub IsOneOf : Peer → List Peer → Type 0
IsOneOf peer [] = ⊥
IsOneOf peer (x ∷ peers) = (x ≡ peer) ⊎ IsOneOf peer peers

-- each of these has a greater id than this; each has a smaller one
abbrev pub AreAbove : ℕ → List Peer → Type 0
AreAbove id [] = Unit {0}
AreAbove id (x ∷ peers) = (id < x.id) × AreAbove id peers

abbrev pub AreBelow : ℕ → List Peer → Type 0
AreBelow id [] = Unit {0}
AreBelow id (x ∷ peers) = (x.id < id) × AreBelow id peers

-- the ids rise, so no connection is here twice
abbrev pub AreAscending : List Peer → Type 0
AreAscending [] = Unit {0}
AreAscending (x ∷ peers) = AreAbove x.id peers × AreAscending peers

-- a connection stands at a place
pub record IsAt (peers : List Peer) (id k : ℕ) : Type 0 where
  pub peer : Peer
  pub there : slice_get peers k ≡ Some peer
  pub own : peer.id ≡ id

-- it stands nowhere, and would stand at this place
pub record IsGapFor (peers : List Peer) (id k : ℕ) : Type 0 where
  pub within : k ≤ length peers
  pub below : AreBelow id (take k peers)
  pub above : AreAbove id (drop k peers)

-- whether a connection is read
abbrev pub IsReadBy : Kept → Bool → Type 0
IsReadBy phase answer = (answer ≡ true → phase ≡ phases.Reading) × (answer ≡ false → phase_in phase ≢ Reading)

-- a connection stands at a place and is read
pub record IsReader (peers : List Peer) (id k : ℕ) : Type 0 where
  pub place : IsAt peers id k
  pub reads : place.peer.phase ≡ phases.Reading

-- the place of a connection, where it is held and read
abbrev pub IsReaderOf : List Peer → ℕ → Option ℕ → Type 0
IsReaderOf peers id None = (c : Connection) → known_at (entries_of peers) id ≡ Some c → c.phase ≢ Reading
IsReaderOf peers id (Some k) = IsReader peers id k

-- how many of these are turned away, or else are sessions
abbrev pub count_of : List Peer → Bool → ℕ
count_of [] away = 0
count_of (x ∷ peers) away = count_at (Some (connection_of x)) away (count_of peers away)

-- no more bytes are sent of a frame than it has
abbrev pub FitsUnsent : Phase → ℕ → Type 0
FitsUnsent Reading n = Unit {0}
FitsUnsent (Waits due) n = Unit {0}
FitsUnsent (Answered frame sent) n = sent + n ≤ length frame
FitsUnsent Silent n = Unit {0}

-- ---- What is true of a room

-- how many connections are held at most
abbrev pub most_peers : ℕ
most_peers = 128

-- a search is that for the query that these bytes ask, over the profiles that were stored before they did
pub record IsSearchOf (site : Site) (stored : List Stored) (kept : KeptProfiles) (bytes : List ℕ) (ended : Bool)
    (whole : Option ℕ) (pending : Search) : Type 0 where
  pub before : ℕ
  pub aim : Aim
  pub span : Span
  pub verdict : IsVerdict bytes ended (Query aim span)
  pub whole_is : whole ≡ Some before
  pub within : before ≤ length stored
  pub job : IsJobOf site (take before stored) kept aim (part bytes span) pending

-- where the search of a connection waits, it is that of the connection
abbrev pub IsSearchIn : (site : Site) (stored : List Stored) (kept : KeptProfiles) (bytes : List ℕ) (ended : Bool)
    (whole : Option ℕ) → Kept → Type 0
IsSearchIn site stored kept bytes ended whole phases.Reading = Unit {0}
IsSearchIn site stored kept bytes ended whole (phases.Waits pending) =
    IsSearchOf site stored kept bytes ended whole pending
IsSearchIn site stored kept bytes ended whole (phases.Answered frame sent) = Unit {0}
IsSearchIn site stored kept bytes ended whole phases.Silent = Unit {0}

-- so it is of the site and the profiles of a desk
abbrev pub IsSearching : Site → List Stored → KeptProfiles → Peer → Type 0
IsSearching site stored kept peer =
    IsSearchIn site stored kept (received_of peer.received) peer.ended peer.before peer.phase

abbrev pub IsSearchAt : Desk → Peer → Type 0
IsSearchAt desk peer = IsSearching (site_at desk) (stored_of desk.profiles) desk.kept peer

-- what is kept at a desk of profiles that were made ready was made from those that are stored
abbrev pub AreReadied : Desk → Type 0
AreReadied desk = AreKept (world_of desk.world) (stored_of desk.profiles) desk.kept

-- what is true of a room at any moment
pub record IsHeld (room : Room) : Type 0 where
  pub sound : IsSound (service_in room) (state_in room)
  pub ascending : AreAscending room.peers.items
  pub roomy : most_peers ≤ vec_capacity room.peers
  pub few : (away : Bool) → count_of room.peers.items away ≤ most_sessions
  pub searching : (peer : Peer) → IsOneOf peer room.peers.items → IsSearchAt room.desk peer
  pub kept : AreReadied room.desk

-- ---- What calls change

-- a connection that has a frame of which nothing is sent, and one whose search waits
abbrev pub answered_by : Peer → Frame → Peer
answered_by peer frame = record peer { phase = phases.Answered frame 0 }

abbrev pub waiting_by : Peer → Search → Peer
waiting_by peer pending = record peer { phase = phases.Waits pending }

-- how far a connection is of which more bytes are sent
abbrev pub sent_in : Kept → ℕ → Kept
sent_in phases.Reading n = phases.Reading
sent_in (phases.Waits pending) n = phases.Waits pending
sent_in (phases.Answered frame sent) n = phases.Answered frame (sent + n)
sent_in phases.Silent n = phases.Silent

-- a search is put last and its connection waits, or the connection is answered by want of memory
pub data Joins (old new : List ℕ) (peer : Peer) (pending : Search) (made : Peer) : Type 0 where
  last : new ≡ old ++ peer.id ∷ [] → made ≡ waiting_by peer pending → Joins old new peer pending made
  none : new ≡ old → made ≡ answered_by peer frames.Memory → Joins old new peer pending made

-- at a desk a connection comes to this, by a relation of what is known of it then and what is stored besides
pub record Makes (old new : Desk) (relation : Connection → List Stored →
    Type 0) (id : ℕ) (away : Bool) (made : Peer) : Type 0 where
  pub own : made.id ≡ id
  pub alike : made.away ≡ away
  pub added : List Stored
  pub is : relation (connection_of made) added
  pub stored : stored_of new.profiles ≡ stored_of old.profiles ++ added
  pub waiting : new.queue.items ≡ old.queue.items ++ waits_as (phase_in made.phase) id
  pub searching : IsSearchAt new made
  pub kept : AreReadied new
  pub stay : StayAwaited (world_of old.world) old.kept new.kept
  pub same : service_at new ≡ service_at old

-- a session is given what is fixed for it
abbrev pub Settles : (old new : Desk) (before c : Connection) (id : ℕ) (away : Bool) (made : Peer) → Type 0
Settles old new before c id away made =
    Makes old new (Takes (service_at old) (stored_of old.profiles) before c) id away made

-- the search of a connection has a turn, by which nothing is stored
abbrev pub HasTurn : Desk → Connection → Connection → List Stored → Type 0
HasTurn old c now added = GoesOn (service_at old) (stored_of old.profiles) c now × (added ≡ [])

-- a connection whose search waits, which goes on for so many turns at most
abbrev pub waiting_for : Connection → ℕ → Connection
waiting_for c due = record c { phase = Waits due }

-- the search of a connection waits
abbrev pub IsWaitingIn : Kept → Type 0
IsWaitingIn phases.Reading = ⊥
IsWaitingIn (phases.Waits pending) = Unit {0}
IsWaitingIn (phases.Answered frame sent) = ⊥
IsWaitingIn phases.Silent = ⊥

-- what a connection comes to by being served has its id, is turned away where it was, and has its search
pub record Keeps (peer made : Peer) : Type 0 where
  pub own : made.id ≡ peer.id
  pub alike : made.away ≡ peer.away
  pub searching : (site : Site) (stored : List Stored) (kept : KeptProfiles) → IsSearching site stored kept peer →
      IsSearching site stored kept made

-- ---- Makings

-- whether the search of a connection waits for the making at a place
abbrev pub is_awaited_by : Kept → ℕ → Bool
is_awaited_by phases.Reading k = false
is_awaited_by (phases.Waits pending) k = waits_for pending k
is_awaited_by (phases.Answered frame sent) k = false
is_awaited_by phases.Silent k = false
