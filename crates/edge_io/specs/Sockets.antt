-- This project's own rule: what the answers of the system's sockets mean, and how long to wait for one.
use Rattle.std.specs.Prelude.{◌≡◌, ◌≢◌, ◌==◌, ◌<◌, ◌⊎◌, ◌&&◌, not, ◌||◌, ℕ, ℤ, pos, Bool, true, false, Result, Ok, Err, Option, Some, None, if◌then◌else◌}
use Rattle.std.specs.Ordering.{int_eq}
use Rattle.std.specs.declared.io.Error.{Error}
use Rattle.std.specs.declared.io.ErrorKind.TheVariants.{WouldBlock, Interrupted}
use Rattle.std.specs.IoError.{error_kind, raw_os_error}
use Rattle.edge_io.specs.Hub.{HubSeen}
use Rattle.edge_io.specs.declared.event.Event.{Event}
use Rattle.edge_io.specs.declared.event.Event.TheVariants.{Opened, Bytes, Ended, Lost, Quiet, Over}
use Rattle.edge_io.specs.declared.failed.Failed.{Failed}
use Rattle.edge_io.specs.declared.replies.Arrival as Arrived
use Rattle.edge_io.specs.declared.replies.Reading as Read

-- an error says that no descriptor is left: to the process, or to the system
abbrev pub wants_by : Option ℤ → Bool
wants_by None = false
wants_by (Some code) = int_eq code (pos 24) || int_eq code (pos 23)

abbrev pub wants_descriptors : Error → Bool
wants_descriptors error = wants_by (raw_os_error error)

-- a connection was taken in; none waits, or none can be taken in for want of descriptors, exactly where the system
-- says so; and any other error is of one connection alone
abbrev pub TellsArrival : {A : Type 0} → Result A Error → Arrived.Arrival A → Type 0
TellsArrival (Ok stream) (Arrived.TheVariants.Came came) = came ≡ stream
TellsArrival (Ok stream) Arrived.TheVariants.NoneNow = ⊥
TellsArrival (Ok stream) Arrived.TheVariants.Again = ⊥
TellsArrival (Ok stream) Arrived.TheVariants.Full = ⊥
TellsArrival (Err error) (Arrived.TheVariants.Came came) = ⊥
TellsArrival (Err error) Arrived.TheVariants.NoneNow = error_kind error ≡ WouldBlock
TellsArrival (Err error) Arrived.TheVariants.Again =
    (error_kind error ≢ WouldBlock) × (wants_descriptors error ≡ false)
TellsArrival (Err error) Arrived.TheVariants.Full =
    (error_kind error ≢ WouldBlock) × (wants_descriptors error ≡ true)

-- another peer may be taken in at once behind one that came, or that couldn't be taken in
abbrev pub may_wait : {A : Type 0} → Arrived.Arrival A → Bool
may_wait (Arrived.TheVariants.Came came) = true
may_wait Arrived.TheVariants.NoneNow = false
may_wait Arrived.TheVariants.Again = true
may_wait Arrived.TheVariants.Full = false

-- the error says that the call would have to wait, or was broken off
abbrev pub IsPassing : Error → Type 0
IsPassing error = (error_kind error ≡ WouldBlock) ⊎ (error_kind error ≡ Interrupted)

-- some bytes came; none is the end; an error that passes is no loss, and every other is one
abbrev pub TellsReading : Result ℕ Error → Read.Reading → Type 0
TellsReading (Ok n) (Read.TheVariants.Arrived came) = (came ≡ n) × (0 < n)
TellsReading (Ok n) Read.TheVariants.Ended = n ≡ 0
TellsReading (Ok n) Read.TheVariants.NotNow = ⊥
TellsReading (Ok n) Read.TheVariants.Again = ⊥
TellsReading (Ok n) Read.TheVariants.Lost = ⊥
TellsReading (Err error) (Read.TheVariants.Arrived came) = ⊥
TellsReading (Err error) Read.TheVariants.Ended = ⊥
TellsReading (Err error) Read.TheVariants.NotNow = error_kind error ≡ WouldBlock
TellsReading (Err error) Read.TheVariants.Again = error_kind error ≡ Interrupted
TellsReading (Err error) Read.TheVariants.Lost = ¬ (IsPassing error)

-- so many bytes were taken, none at an error that passes; every other error is a failure
abbrev pub TellsSending : Result ℕ Error → Result ℕ Failed → Type 0
TellsSending (Ok n) (Ok taken) = taken ≡ n
TellsSending (Ok n) (Err failed) = ⊥
TellsSending (Err error) (Ok taken) = (taken ≡ 0) × IsPassing error
TellsSending (Err error) (Err failed) = ¬ (IsPassing error)

-- a wait failed exactly where the system says so
abbrev pub TellsWaiting : Result (Unit {0}) Error → Result (Unit {0}) Failed → Type 0
TellsWaiting (Ok u) (Ok v) = Unit {0}
TellsWaiting (Ok u) (Err failed) = ⊥
TellsWaiting (Err error) (Ok v) = ⊥
TellsWaiting (Err error) (Err failed) = Unit {0}

-- how many nanoseconds to wait for an event: none where somebody waits in line or for an answer, a send took all
-- that it was offered since the last wait, or the caller has work of its own
abbrev pub nap_of : (in_line awaited : ℕ) → (moved busy : Bool) → ℕ
nap_of in_line awaited moved busy =
    if (in_line == 0) && ((awaited == 0) && (not moved && not busy)) then 80000000 else 0

-- an event is not the last of the hub
abbrev pub IsOn : Event → Type 0
IsOn (Opened id) = Unit {0}
IsOn (Bytes id n) = Unit {0}
IsOn (Ended id) = Unit {0}
IsOn (Lost id) = Unit {0}
IsOn Quiet = Unit {0}
IsOn Over = ⊥

-- a hub of the system before any call
abbrev pub fresh_hub : HubSeen
fresh_hub = record { acts = None; faults = 0; breaks = 0 }
