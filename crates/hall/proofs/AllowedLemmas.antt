-- Allowed frames stay so while more profiles are stored, and go by what is kept of a connection alone.
use Rattle.std.proofs.Common.{ℕ, List, ◌++◌, sym, subst, arith, length-append}
use Rattle.std.proofs.lemmas.List.{take-append-le}
use Rattle.hall.specs.Allowed.{IsAllowed, IsRowOf, away, memory, refused, whole}
use Rattle.hall.specs.State.{Connection, Phase, Service}
use Rattle.session_answers.specs.Stored.{Stored}

-- an allowed frame stays so
pub IsAllowed-more : (service : Service) (stored added : List Stored) (c : Connection) (frame : List ℕ) → IsAllowed service stored c frame →
    IsAllowed service (stored ++ added) c frame
IsAllowed-more service stored added c frame (away is) = away is
IsAllowed-more service stored added c frame (refused is verdict) = refused is verdict
IsAllowed-more service stored added c frame (whole {before} {added = more} is counts fits row) =
    whole is counts (omega (arith, length-append stored added))
    (subst (λ (xs : List Stored). IsRowOf service xs c.bytes c.ended frame more) (sym (take-append-le before stored added fits)) row)
IsAllowed-more service stored added c frame (memory is) = memory is

-- a connection that is farther or less far
abbrev pub at_phase : Connection → Phase → Connection
at_phase c p = record c { phase = p }

-- a frame is allowed however far a connection is
pub IsAllowed-at : (service : Service) (stored : List Stored) (c : Connection) (p : Phase) (frame : List ℕ) →
    IsAllowed service stored c frame → IsAllowed service stored (at_phase c p) frame
IsAllowed-at service stored c p frame (away is) = away is
IsAllowed-at service stored c p frame (refused is verdict) = refused is verdict
IsAllowed-at service stored c p frame (whole {before} is counts fits row) = whole is counts fits row
IsAllowed-at service stored c p frame (memory is) = memory is
