-- This project's own rule: a script and the acts that were noted over it.
use Rattle.std.specs.Prelude.{◌≡◌, ◌==◌, ◌≤◌, ◌+◌, ℕ, zero, suc, List, [], ◌∷◌, ◌++◌, length, take, drop, if◌then◌else◌}
use Rattle.edge_io.specs.Acts.{Act, Listens, Gave, Took, Broke, Closed}
use Rattle.edge_io.specs.declared.event.Event.{Event}
use Rattle.edge_io.specs.declared.event.Event.TheVariants.{Opened, Bytes, Ended, Lost, Quiet, Over}
use Rattle.edge_memory.specs.declared.note.Note as Kept
use Rattle.edge_memory.specs.declared.script.Script as Entry

-- a script, the acts so far, and for how many more notes and bytes of addresses and sends there is room
pub record Tape : Type 0 where
  pub script : List Entry.Script
  pub acts : List Act
  pub room : ℕ
  pub place : ℕ

-- a tape of this script without acts, with room for so many notes and bytes of addresses and sends
pub record IsBlank (script : List Entry.Script) (notes bytes : ℕ) (tape : Tape) : Type 0 where
  pub script_is : tape.script ≡ script
  pub acts : tape.acts ≡ []
  pub room : tape.room ≡ notes
  pub place : tape.place ≡ bytes

-- one act was noted, which took room for no more than so many bytes
pub record Notes (old new : Tape) (bytes : ℕ) (act : Act) : Type 0 where
  pub script : new.script ≡ old.script
  pub acts : new.acts ≡ old.acts ++ (act ∷ [])
  pub room : new.room + 1 ≡ old.room
  pub place : old.place ≤ new.place + bytes

-- the bytes of an entry
abbrev pub bytes_of : Entry.Script → List ℕ
bytes_of (Entry.TheVariants.Opened id) = []
bytes_of (Entry.TheVariants.Bytes id bytes) = bytes
bytes_of (Entry.TheVariants.Ended id) = []
bytes_of (Entry.TheVariants.Lost id) = []
bytes_of Entry.TheVariants.Quiet = []
bytes_of (Entry.TheVariants.AwaitClosed id most) = []

-- the bytes of the entry at a place
abbrev pub bytes_at : List Entry.Script → ℕ → List ℕ
bytes_at [] place = []
bytes_at (entry ∷ rest) zero = bytes_of entry
bytes_at (entry ∷ rest) (suc place) = bytes_at rest place

-- the bytes of an event, which stand at a place of the script
abbrev pub noted_bytes : List Entry.Script → Event → ℕ → ℕ → List ℕ
noted_bytes script (Opened id) place from = []
noted_bytes script (Bytes id n) place from = take n (drop from (bytes_at script place))
noted_bytes script (Ended id) place from = []
noted_bytes script (Lost id) place from = []
noted_bytes script Quiet place from = []
noted_bytes script Over place from = []

-- the act that a note stands for
abbrev pub act_of : List Entry.Script → List ℕ → Kept.Note → Act
act_of script kept (Kept.TheVariants.Listens from n hangup) = Listens (take n (drop from kept)) hangup
act_of script kept (Kept.TheVariants.Gave event place from) = Gave event (noted_bytes script event place from)
act_of script kept (Kept.TheVariants.Took id from n) = Took id (take n (drop from kept))
act_of script kept (Kept.TheVariants.Broke id) = Broke id
act_of script kept (Kept.TheVariants.Closed id) = Closed id

-- the bytes of a note stand among those that were kept
abbrev pub IsNotedWithin : List ℕ → Kept.Note → Type 0
IsNotedWithin kept (Kept.TheVariants.Listens from n hangup) = from + n ≤ length kept
IsNotedWithin kept (Kept.TheVariants.Gave event place from) = Unit {0}
IsNotedWithin kept (Kept.TheVariants.Took id from n) = from + n ≤ length kept
IsNotedWithin kept (Kept.TheVariants.Broke id) = Unit {0}
IsNotedWithin kept (Kept.TheVariants.Closed id) = Unit {0}

-- the bytes of all notes do
abbrev pub AreNotedWithin : List ℕ → List Kept.Note → Type 0
AreNotedWithin kept [] = Unit {0}
AreNotedWithin kept (note ∷ notes) = IsNotedWithin kept note × AreNotedWithin kept notes

-- the bytes that a note says were sent to a connection
abbrev pub sent_by : ℕ → List ℕ → Kept.Note → List ℕ
sent_by id kept (Kept.TheVariants.Listens from n hangup) = []
sent_by id kept (Kept.TheVariants.Gave event place from) = []
sent_by id kept (Kept.TheVariants.Took to from n) = if to == id then take n (drop from kept) else []
sent_by id kept (Kept.TheVariants.Broke at) = []
sent_by id kept (Kept.TheVariants.Closed at) = []

-- the address at which a note says that the hub listened, with an end of line; nothing of another note
abbrev pub listened_by : List ℕ → Kept.Note → List ℕ
listened_by kept (Kept.TheVariants.Listens from n hangup) = take n (drop from kept) ++ 10 ∷ []
listened_by kept (Kept.TheVariants.Gave event place from) = []
listened_by kept (Kept.TheVariants.Took to from n) = []
listened_by kept (Kept.TheVariants.Broke at) = []
listened_by kept (Kept.TheVariants.Closed at) = []
