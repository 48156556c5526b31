-- This project's own rule: what the entries of a script give, one event after another.
use Rattle.std.specs.Prelude.{◌≡◌, ◌==◌, ◌<◌, ℕ, zero, suc, Bool, false, ◌||◌, List, [], ◌∷◌, length, take, drop, min, if◌then◌else◌}
use Rattle.edge_io.specs.Acts.{Act, told, hangs_up}
use Rattle.edge_io.specs.declared.event.Event.{Event}
use Rattle.edge_io.specs.declared.event.Event.TheVariants.{Opened, Bytes, Ended, Lost, Quiet, Over}
use Rattle.edge_memory.specs.declared.script.Script as Entry

-- an entry among these opens the connection
abbrev pub opens : ℕ → List Entry.Script → Bool
opens id [] = false
opens id (Entry.TheVariants.Opened at ∷ rest) = (at == id) || opens id rest
opens id (Entry.TheVariants.Bytes at bytes ∷ rest) = opens id rest
opens id (Entry.TheVariants.Ended at ∷ rest) = opens id rest
opens id (Entry.TheVariants.Lost at ∷ rest) = opens id rest
opens id (Entry.TheVariants.Quiet ∷ rest) = opens id rest
opens id (Entry.TheVariants.AwaitClosed at most ∷ rest) = opens id rest

-- an entry may stand before these: the connection that it opens isn't opened again, and its bytes are some
abbrev pub IsPlayableBefore : Entry.Script → List Entry.Script → Type 0
IsPlayableBefore (Entry.TheVariants.Opened id) rest = opens id rest ≡ false
IsPlayableBefore (Entry.TheVariants.Bytes id bytes) rest = 0 < length bytes
IsPlayableBefore (Entry.TheVariants.Ended id) rest = Unit {0}
IsPlayableBefore (Entry.TheVariants.Lost id) rest = Unit {0}
IsPlayableBefore Entry.TheVariants.Quiet rest = Unit {0}
IsPlayableBefore (Entry.TheVariants.AwaitClosed id most) rest = Unit {0}

-- no connection is opened twice, and no entry gives no bytes
abbrev pub IsPlayable : List Entry.Script → Type 0
IsPlayable [] = Unit {0}
IsPlayable (entry ∷ rest) = IsPlayableBefore entry rest × IsPlayable rest

-- what a script gives next: an event, the bytes that come with it, and the entries that are left
pub record Scene : Type 0 where
  pub event : Event
  pub bytes : List ℕ
  pub left : List Entry.Script

-- an event without bytes
abbrev pub scene : Event → List Entry.Script → Scene
scene event left = record { event = event; bytes = []; left = left }

-- some first bytes of an entry, whose rest stays where it is not empty
abbrev pub bytes_scene : ℕ → List ℕ → ℕ → List Entry.Script → Scene
bytes_scene id bytes n rest = record {
  event = Bytes id n;
  bytes = take n bytes;
  left = if n == length bytes then rest else Entry.TheVariants.Bytes id (drop n bytes) ∷ rest;
}

-- a wait, which is over for good once no call is left to it
abbrev pub wait_scene : ℕ → ℕ → List Entry.Script → Scene
wait_scene id zero rest = scene Over []
wait_scene id (suc most) rest = scene Quiet (Entry.TheVariants.AwaitClosed id most ∷ rest)

-- what the entries give next, no more than so many bytes; a wait at their front is for a connection that
-- isn't closed
abbrev pub front_scene : ℕ → List Entry.Script → Scene
front_scene most [] = scene Over []
front_scene most (Entry.TheVariants.Opened id ∷ rest) = scene (Opened id) rest
front_scene most (Entry.TheVariants.Bytes id bytes ∷ rest) =
    bytes_scene id bytes (min (length bytes) most) rest
front_scene most (Entry.TheVariants.Ended id ∷ rest) = scene (Ended id) rest
front_scene most (Entry.TheVariants.Lost id ∷ rest) = scene (Lost id) rest
front_scene most (Entry.TheVariants.Quiet ∷ rest) = scene Quiet rest
front_scene most (Entry.TheVariants.AwaitClosed id calls ∷ rest) = wait_scene id calls rest

-- the entries after the waits at their front for connections that were closed
abbrev pub after_waits : (ℕ → Bool) → List Entry.Script → List Entry.Script
after_waits closed [] = []
after_waits closed (Entry.TheVariants.Opened id ∷ rest) = Entry.TheVariants.Opened id ∷ rest
after_waits closed (Entry.TheVariants.Bytes id bytes ∷ rest) = Entry.TheVariants.Bytes id bytes ∷ rest
after_waits closed (Entry.TheVariants.Ended id ∷ rest) = Entry.TheVariants.Ended id ∷ rest
after_waits closed (Entry.TheVariants.Lost id ∷ rest) = Entry.TheVariants.Lost id ∷ rest
after_waits closed (Entry.TheVariants.Quiet ∷ rest) = Entry.TheVariants.Quiet ∷ rest
after_waits closed (Entry.TheVariants.AwaitClosed id most ∷ rest) =
    if closed id then after_waits closed rest else Entry.TheVariants.AwaitClosed id most ∷ rest

-- what an event is told as: an end of a peer is the loss of its connection, where it is to be
abbrev pub told_as : Bool → Event → Event
told_as hangup (Opened id) = Opened id
told_as hangup (Bytes id n) = Bytes id n
told_as hangup (Ended id) = if hangup then Lost id else Ended id
told_as hangup (Lost id) = Lost id
told_as hangup Quiet = Quiet
told_as hangup Over = Over

-- the same of all that a script gives
abbrev pub told_scene : Bool → Scene → Scene
told_scene hangup given = record { event = told_as hangup given.event; bytes = given.bytes; left = given.left }

-- what a script gives next after these acts, no more than so many bytes, as the hub was last opened
abbrev pub next_scene : List Act → ℕ → List Entry.Script → Scene
next_scene acts most script =
    told_scene (hangs_up acts) (front_scene most (after_waits (λ id. (told id acts).closed) script))
