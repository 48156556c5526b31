-- This project's own rule: what a hub shows at a moment, and what its calls change in it.
use Rattle.std.specs.Prelude.{◌≡◌, ◌≤◌, ℕ, Bool, true, false, List, [], ◌∷◌, ◌++◌, length, take, Option, Some, None, if◌then◌else◌}
use Rattle.edge_io.specs.Acts.{Act, Gave, Took, Broke, Closed, told, hangs_up}
use Rattle.edge_io.specs.Faults.{CountRose}
use Rattle.edge_io.specs.declared.event.Event.{Event}
use Rattle.edge_io.specs.declared.event.Event.TheVariants.{Opened, Bytes, Ended, Lost, Quiet, Over}

-- what a hub shows: its acts so far, where they are told; how many of its openings and events failed; and how
-- many of its sends failed
pub record HubSeen : Type 0 where
  pub acts : Option (List Act)
  pub faults : ℕ
  pub breaks : ℕ

-- told acts grow by these; whether acts are told never changes
abbrev pub Tells : Option (List Act) → Option (List Act) → List Act → Type 0
Tells None None acts = Unit {0}
Tells None (Some new) acts = ⊥
Tells (Some old) None acts = ⊥
Tells (Some old) (Some new) acts = new ≡ old ++ acts

-- an act on a connection, where that is held
abbrev pub where_live : ℕ → List Act → Act → List Act
where_live id acts act = if (told id acts).live then act ∷ [] else []

-- told acts grow by this one, where the connection is held
abbrev pub TellsWhereLive : Option (List Act) → Option (List Act) → ℕ → Act → Type 0
TellsWhereLive None new id act = Tells None new []
TellsWhereLive (Some old) new id act = Tells (Some old) new (where_live id old act)

-- the number of bytes that an event gives is at least one, and no more than the buffer's
abbrev pub FitsBuffer : List ℕ → Event → Type 0
FitsBuffer buffer (Opened id) = Unit {0}
FitsBuffer buffer (Bytes id n) = (1 ≤ n) × (n ≤ length buffer)
FitsBuffer buffer (Ended id) = Unit {0}
FitsBuffer buffer (Lost id) = Unit {0}
FitsBuffer buffer Quiet = Unit {0}
FitsBuffer buffer Over = Unit {0}

-- an opening is of a connection that told acts didn't open
abbrev pub IsFreshAmong : List Act → Event → Type 0
IsFreshAmong acts (Opened id) = (told id acts).opened ≡ false
IsFreshAmong acts (Bytes id n) = Unit {0}
IsFreshAmong acts (Ended id) = Unit {0}
IsFreshAmong acts (Lost id) = Unit {0}
IsFreshAmong acts Quiet = Unit {0}
IsFreshAmong acts Over = Unit {0}

-- the same, where acts are told
abbrev pub IsFresh : Option (List Act) → Event → Type 0
IsFresh None event = Unit {0}
IsFresh (Some acts) event = IsFreshAmong acts event

-- an end is told only where it isn't the loss of its connection
abbrev pub TellsEnd : Bool → Event → Type 0
TellsEnd hangup (Opened id) = Unit {0}
TellsEnd hangup (Bytes id n) = Unit {0}
TellsEnd hangup (Ended id) = hangup ≡ false
TellsEnd hangup (Lost id) = Unit {0}
TellsEnd hangup Quiet = Unit {0}
TellsEnd hangup Over = Unit {0}

-- the same of a hub as it was last opened, where its acts are told
abbrev pub TellsEndAfter : Option (List Act) → Event → Type 0
TellsEndAfter None event = Unit {0}
TellsEndAfter (Some acts) event = TellsEnd (hangs_up acts) event

-- the bytes that an event gave in the buffer
abbrev pub bytes_given : Event → List ℕ → List ℕ
bytes_given (Opened id) buffer = []
bytes_given (Bytes id n) buffer = take n buffer
bytes_given (Ended id) buffer = []
bytes_given (Lost id) buffer = []
bytes_given Quiet buffer = []
bytes_given Over buffer = []

-- these acts were done, and no call failed
pub record Does (old new : HubSeen) (done : List Act) : Type 0 where
  pub acts : Tells old.acts new.acts done
  pub faults : new.faults ≡ old.faults
  pub breaks : new.breaks ≡ old.breaks

-- an event was given, with the bytes that it gave in the buffer
abbrev pub Gives : HubSeen → HubSeen → List ℕ → Event → Type 0
Gives old new buffer event = Does old new (Gave event (bytes_given event buffer) ∷ [])

-- so many first bytes of a piece were taken for a connection
abbrev pub Takes : (old new : HubSeen) (id : ℕ) (piece : List ℕ) (count : ℕ) → Type 0
Takes old new id piece count = Does old new (Took id (take count piece) ∷ [])

-- an opening or a next event failed: what is told stays, and the count of these faults rose
pub record Fails (old new : HubSeen) : Type 0 where
  pub acts : Tells old.acts new.acts []
  pub rose : CountRose old.faults new.faults
  pub breaks : new.breaks ≡ old.breaks

-- a send failed: the connection, where it is held, ends by it, and the count of failed sends alone rose
pub record Breaks (old new : HubSeen) (id : ℕ) : Type 0 where
  pub acts : TellsWhereLive old.acts new.acts id (Broke id)
  pub faults : new.faults ≡ old.faults
  pub rose : CountRose old.breaks new.breaks

-- a connection was closed, where it was held, and no call failed
pub record Closes (old new : HubSeen) (id : ℕ) : Type 0 where
  pub acts : TellsWhereLive old.acts new.acts id (Closed id)
  pub faults : new.faults ≡ old.faults
  pub breaks : new.breaks ≡ old.breaks

-- a hub holds a connection, where its acts are told: an event opened it, and since then it was neither lost,
-- nor closed, nor ended by a failed send
abbrev pub IsLive : Option (List Act) → ℕ → Type 0
IsLive None id = Unit {0}
IsLive (Some acts) id = (told id acts).live ≡ true
