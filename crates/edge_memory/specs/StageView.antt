-- What the fields of a script that is played stand for.
use Rattle.std.specs.Prelude.{◌≡◌, ◌≤◌, ◌+◌, ◌-◌, ℕ, true, false, length, vec_len, vec_capacity}
use Rattle.edge_io.specs.Acts.{told, hangs_up}
use Rattle.edge_memory.specs.Ids.{has}
use Rattle.edge_memory.specs.MemoryHub.{room_used}
use Rattle.edge_memory.specs.Place.{left_from, IsPlace}
use Rattle.edge_memory.specs.Script.{IsPlayable, opens}
use Rattle.edge_memory.specs.Stage.{Stage, Hold}
use Rattle.edge_memory.specs.declared.stage.Stage.TheInside.{Inside}

-- the script that the fields make
abbrev pub stage_of : Inside → Stage
stage_of s = record { acts = s.tape.acts; script = left_from s.tape.script s.place s.used; room = s.room }

-- what goes with it
abbrev pub hold_of : Inside → Hold
hold_of s = record {
  acts = s.tape.acts;
  left = left_from s.tape.script s.place s.used;
  live = s.live.items;
  closed = s.closed.items;
  room = s.room;
  kept = s.kept;
  notes = s.tape.room;
  bytes = s.tape.place;
}

-- what is kept is what the acts take; there is room for what may still be noted; the lists have the
-- connections that are held and that were closed; and no entry that is left opens a connection that was
-- opened
pub record IsHeld (h : Hold) : Type 0 where
  pub kept_is : h.kept ≡ room_used h.acts
  pub within : h.kept ≤ h.room
  pub notes_left : h.room - h.kept + length h.live + length h.left ≤ h.notes
  pub bytes_left : h.room - h.kept ≤ h.bytes
  pub are_live : (id : ℕ) → (told id h.acts).live ≡ has id h.live
  pub are_closed : (id : ℕ) → (told id h.acts).closed ≡ has id h.closed
  pub to_come : (id : ℕ) → opens id h.left ≡ true → (told id h.acts).opened ≡ false

-- so it is with the fields, whose script is playable and whose lists have room, and in which an end is a loss as
-- the hub was last opened
pub record IsSet (s : Inside) : Type 0 where
  pub held : IsHeld (hold_of s)
  pub hangs : s.hangup ≡ hangs_up s.tape.acts
  pub playable : IsPlayable s.tape.script
  pub is_place : IsPlace s.tape.script s.place s.used
  pub live_room : vec_len s.live + length (left_from s.tape.script s.place s.used) ≤ vec_capacity s.live
  pub closed_room : vec_len s.closed + vec_len s.live + length
      (left_from s.tape.script s.place s.used) ≤ vec_capacity s.closed
