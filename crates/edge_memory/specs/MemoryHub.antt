-- This project's own rule: what a hub in memory gives and takes, when a call on it fails, and what it then
-- leaves.
use Rattle.std.specs.Prelude.{◌≤◌, ◌+◌, ◌-◌, ◌⊎◌, ℕ, Bool, List, [], ◌∷◌, ◌++◌, length, take, drop, min, Contains, Some}
use Rattle.edge_io.specs.Acts.{Act, Listens, Gave, Took, Broke, Closed}
use Rattle.edge_io.specs.Faults.{next_count}
use Rattle.edge_io.specs.Hub.{HubSeen, where_live}
use Rattle.edge_memory.specs.Script.{Scene, next_scene}
use Rattle.edge_memory.specs.declared.script.Script.{Script}

-- a hub in memory: its acts, the entries of its script that are left, the most that it keeps, the most bytes
-- of a call, the numbers of the calls that fail, and its counts
pub record Play : Type 0 where
  pub acts : List Act
  pub script : List Script
  pub room : ℕ
  pub piece : ℕ
  pub failing : List ℕ
  pub calls : ℕ
  pub faults : ℕ
  pub breaks : ℕ

-- what it shows as a hub
abbrev pub seen_of : Play → HubSeen
seen_of s = record { acts = Some s.acts; faults = s.faults; breaks = s.breaks }

-- a hub on which no call was made
abbrev pub fresh_play : List Script → ℕ → ℕ → List ℕ → Play
fresh_play script room piece failing = record {
  acts = [];
  script = script;
  room = room;
  piece = piece;
  failing = failing;
  calls = 0;
  faults = 0;
  breaks = 0;
}

-- how much of the room an act takes: an event one; an opening and a send one, and one a byte
abbrev pub room_of : Act → ℕ
room_of (Listens address hangup) = length address + 1
room_of (Gave event bytes) = 1
room_of (Took id bytes) = length bytes + 1
room_of (Broke id) = 0
room_of (Closed id) = 0

-- how much of the room is used
abbrev pub room_used : List Act → ℕ
room_used [] = 0
room_used (act ∷ acts) = room_of act + room_used acts

-- the next opening, at this address, fails: it is among the calls that fail, or the room is too small for it
abbrev pub FailsToListen : Play → List ℕ → Type 0
FailsToListen s address = Contains s.failing s.calls ⊎ (s.room ≤ room_used s.acts + length address)

-- the next event or send fails: it is among the calls that fail, or the room is full
abbrev pub FailsNext : Play → Type 0
FailsNext s = Contains s.failing s.calls ⊎ (s.room ≤ room_used s.acts)

-- the hub after a call that failed and changed no more than the counts
abbrev pub after_fault : Play → Play
after_fault s = record s { calls = next_count s.calls; faults = next_count s.faults }

-- the hub after its opening at this address, with an end of a peer as the loss of its connection or not
abbrev pub after_open : Play → List ℕ → Bool → Play
after_open s address hangup = record s {
  acts = s.acts ++ (Listens address hangup ∷ []);
  calls = next_count s.calls;
}

-- the addresses at which acts say that a hub listened, in their order, each with an end of line
abbrev pub listened : List Act → List ℕ
listened [] = []
listened (Listens address hangup ∷ acts) = (address ++ 10 ∷ []) ++ listened acts
listened (Gave event bytes ∷ acts) = listened acts
listened (Took id bytes ∷ acts) = listened acts
listened (Broke id ∷ acts) = listened acts
listened (Closed id ∷ acts) = listened acts

-- what the next event is, for a buffer of this length
abbrev pub scene_of : Play → ℕ → Scene
scene_of s room = next_scene s.acts (min room s.piece) s.script

-- the buffer after an event: its bytes, and then the old ones
abbrev pub buffer_after : List ℕ → List ℕ → List ℕ
buffer_after bytes buffer = bytes ++ drop (length bytes) buffer

-- the hub after it gave this
abbrev pub after_scene : Play → Scene → Play
after_scene s scene = record s {
  acts = s.acts ++ (Gave scene.event scene.bytes ∷ []);
  script = scene.left;
  calls = next_count s.calls;
}

-- how many bytes of a piece the next send takes
abbrev pub taken_of : Play → List ℕ → ℕ
taken_of s piece = min (min (length piece) s.piece) (s.room - room_used s.acts - 1)

-- the hub after a send that took so many first bytes of the piece
abbrev pub after_send : Play → ℕ → List ℕ → ℕ → Play
after_send s id piece n = record s {
  acts = s.acts ++ (Took id (take n piece) ∷ []);
  calls = next_count s.calls;
}

-- the hub after a send that failed
abbrev pub after_failed_send : Play → ℕ → Play
after_failed_send s id = record s {
  acts = s.acts ++ where_live id s.acts (Broke id);
  calls = next_count s.calls;
  breaks = next_count s.breaks;
}

-- the hub after a close
abbrev pub after_close : Play → ℕ → Play
after_close s id = record s { acts = s.acts ++ where_live id s.acts (Closed id) }
