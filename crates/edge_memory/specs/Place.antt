-- This project's own rule: how far a script was played.
use Rattle.std.specs.Prelude.{◌≡◌, ◌<◌, ◌≤◌, ◌-◌, ◌+◌, ℕ, Bool, false, List, [], ◌∷◌, length, take, drop}
use Rattle.edge_memory.specs.Script.{front_scene}
use Rattle.edge_memory.specs.Tape.{bytes_of, bytes_at, noted_bytes}
use Rattle.edge_memory.specs.declared.cue.Cue.{Cue}
use Rattle.edge_memory.specs.declared.cue.Shot.{Shot}
use Rattle.edge_memory.specs.declared.cue.Then.{Then}
use Rattle.edge_memory.specs.declared.cue.Then.TheVariants.{Stays, Goes, Ends}
use Rattle.edge_io.specs.declared.event.Event.{Event}
use Rattle.edge_io.specs.declared.event.Event.TheVariants.{Opened, Bytes, Ended, Lost, Quiet, Over}
use Rattle.edge_memory.specs.declared.script.Script as Entry

-- what is left of an entry after so many of its bytes or calls
abbrev pub left_of : Entry.Script → ℕ → Entry.Script
left_of (Entry.TheVariants.Opened id) used = Entry.TheVariants.Opened id
left_of (Entry.TheVariants.Bytes id bytes) used = Entry.TheVariants.Bytes id (drop used bytes)
left_of (Entry.TheVariants.Ended id) used = Entry.TheVariants.Ended id
left_of (Entry.TheVariants.Lost id) used = Entry.TheVariants.Lost id
left_of Entry.TheVariants.Quiet used = Entry.TheVariants.Quiet
left_of (Entry.TheVariants.AwaitClosed id most) used = Entry.TheVariants.AwaitClosed id (most - used)

-- entries of whose first one so many bytes or calls were used
abbrev pub after_use : ℕ → List Entry.Script → List Entry.Script
after_use used [] = []
after_use used (entry ∷ rest) = left_of entry used ∷ rest

-- the entries that are left from a place on, of whose first one so many bytes or calls were used
abbrev pub left_from : List Entry.Script → ℕ → ℕ → List Entry.Script
left_from script place used = after_use used (drop place script)

-- some byte of an entry is left, and no more calls of it were used than there are
abbrev pub IsUsedWithin : Entry.Script → ℕ → Type 0
IsUsedWithin (Entry.TheVariants.Opened id) used = Unit {0}
IsUsedWithin (Entry.TheVariants.Bytes id bytes) used = used < length bytes
IsUsedWithin (Entry.TheVariants.Ended id) used = Unit {0}
IsUsedWithin (Entry.TheVariants.Lost id) used = Unit {0}
IsUsedWithin Entry.TheVariants.Quiet used = Unit {0}
IsUsedWithin (Entry.TheVariants.AwaitClosed id most) used = used ≤ most

-- the same of the first of these entries
abbrev pub IsFront : ℕ → List Entry.Script → Type 0
IsFront used [] = Unit {0}
IsFront used (entry ∷ rest) = IsUsedWithin entry used

-- the same of the entry at a place
abbrev pub IsPlace : List Entry.Script → ℕ → ℕ → Type 0
IsPlace script place used = IsFront used (drop place script)

-- an entry is a wait for a connection that was closed
abbrev pub is_met : (ℕ → Bool) → Entry.Script → Bool
is_met closed (Entry.TheVariants.Opened id) = false
is_met closed (Entry.TheVariants.Bytes id bytes) = false
is_met closed (Entry.TheVariants.Ended id) = false
is_met closed (Entry.TheVariants.Lost id) = false
is_met closed Entry.TheVariants.Quiet = false
is_met closed (Entry.TheVariants.AwaitClosed id most) = closed id

-- the bytes of an event, which are the first of these
abbrev pub event_bytes : Event → List ℕ → List ℕ
event_bytes (Opened id) bytes = []
event_bytes (Bytes id n) bytes = take n bytes
event_bytes (Ended id) bytes = []
event_bytes (Lost id) bytes = []
event_bytes Quiet bytes = []
event_bytes Over bytes = []

-- the entries after one was played
abbrev pub left_then : Then → Entry.Script → List Entry.Script → List Entry.Script
left_then (Stays used) entry rest = left_of entry used ∷ rest
left_then Goes entry rest = rest
left_then Ends entry rest = []

-- an entry that stays has something left
abbrev pub IsThenWithin : Then → Entry.Script → Type 0
IsThenWithin (Stays used) entry = IsUsedWithin entry used
IsThenWithin Goes entry = Unit {0}
IsThenWithin Ends entry = Unit {0}

-- an event's bytes are at least one, and no more than these
abbrev pub IsEventWithin : Event → List ℕ → Type 0
IsEventWithin (Opened id) bytes = Unit {0}
IsEventWithin (Bytes id n) bytes = (1 ≤ n) × (n ≤ length bytes)
IsEventWithin (Ended id) bytes = Unit {0}
IsEventWithin (Lost id) bytes = Unit {0}
IsEventWithin Quiet bytes = Unit {0}
IsEventWithin Over bytes = Unit {0}

-- an event's bytes are no more than so many
abbrev pub IsEventBelow : Event → ℕ → Type 0
IsEventBelow (Opened id) most = Unit {0}
IsEventBelow (Bytes id n) most = n ≤ most
IsEventBelow (Ended id) most = Unit {0}
IsEventBelow (Lost id) most = Unit {0}
IsEventBelow Quiet most = Unit {0}
IsEventBelow Over most = Unit {0}

-- a cue is what an entry gives after so much of it was used, no more than so many bytes, and what is left
-- then, whatever entries follow it
pub record IsCue (entry : Entry.Script) (used most : ℕ) (cue : Cue) : Type 0 where
  pub scene : (rest : List Entry.Script) → front_scene most (left_of entry used ∷ rest) ≡ record {
    event = cue.event;
    bytes = event_bytes cue.event (drop used (bytes_of entry));
    left = left_then cue.after entry rest;
  }
  pub within : IsThenWithin cue.after entry
  pub bytes : IsEventWithin cue.event (drop used (bytes_of entry))
  pub below : IsEventBelow cue.event most

-- the cue of some bytes
abbrev pub IsBytesCue : (id : ℕ) (bytes : List ℕ) (used most : ℕ) (cue : Cue) → Type 0
IsBytesCue id bytes used most cue = IsCue (Entry.TheVariants.Bytes id bytes) used most cue

-- the cue of a wait, for whichever connection, that isn't met
abbrev pub IsWaitCue : ℕ → ℕ → Cue → Type 0
IsWaitCue used calls cue = (id most : ℕ) → IsCue (Entry.TheVariants.AwaitClosed id calls) used most cue

-- the cue of an event after which the next entry follows
abbrev pub IsPassingCue : Event → Cue → Type 0
IsPassingCue event cue = cue ≡ record { event = event; after = Goes }

-- the place after an entry was played, and what of its entry is used
abbrev pub place_then : Then → ℕ → ℕ → ℕ × ℕ
place_then (Stays used) place end = (place, used)
place_then Goes place end = (place + 1, 0)
place_then Ends place end = (end, 0)

-- a shot is what a script gives from a place on, no more than so many bytes; its own place is where it goes
-- on
pub record IsShot (script : List Entry.Script) (place used most : ℕ) (shot : Shot) : Type 0 where
  pub scene : front_scene most (left_from script place used) ≡ record {
    event = shot.event;
    bytes = noted_bytes script shot.event place used;
    left = left_from script shot.place shot.used;
  }
  pub is_place : IsPlace script shot.place shot.used
  pub bytes : IsEventWithin shot.event (drop used (bytes_at script place))
  pub below : IsEventBelow shot.event most
