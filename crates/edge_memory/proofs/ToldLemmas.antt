-- What stays of an event, however an end of a peer is told.
use Rattle.std.proofs.Common.{◌≡◌, ◌==◌, ℕ, Bool, true, false, List, refl, cond}
use Rattle.edge_io.specs.Acts.{Traffic, Gave, after_act, after_event}
use Rattle.edge_io.specs.Hub.{TellsEnd, bytes_given}
use Rattle.edge_memory.specs.Script.{told_as}
use Rattle.edge_memory.specs.Stage.{opened_by}
use Rattle.edge_memory.specs.Tape.{noted_bytes}
use Rattle.edge_io.specs.declared.event.Event.{Event}
use Rattle.edge_io.specs.declared.event.Event.TheVariants.{Opened, Bytes, Ended, Lost, Quiet, Over}
use Rattle.edge_memory.specs.declared.script.Script.{Script}

-- it has the same bytes of the script
pub noted-told : (script : List Script) (hangup : Bool) (event : Event) (place used : ℕ) →
    noted_bytes script (told_as hangup event) place used ≡ noted_bytes script event place used
noted-told script hangup (Opened id) place used = refl
noted-told script hangup (Bytes id n) place used = refl
noted-told script true (Ended id) place used = refl
noted-told script false (Ended id) place used = refl
noted-told script hangup (Lost id) place used = refl
noted-told script hangup Quiet place used = refl
noted-told script hangup Over place used = refl

-- it opens as many connections
pub opened_by-told : (hangup : Bool) (event : Event) → opened_by (told_as hangup event) ≡ opened_by event
opened_by-told hangup (Opened id) = refl
opened_by-told hangup (Bytes id n) = refl
opened_by-told true (Ended id) = refl
opened_by-told false (Ended id) = refl
opened_by-told hangup (Lost id) = refl
opened_by-told hangup Quiet = refl
opened_by-told hangup Over = refl

-- it opens the same connections
pub opened-told : (id : ℕ) (hangup : Bool) (event : Event) (bytes : List ℕ) (t : Traffic) →
    (after_act id t (Gave (told_as hangup event) bytes)).opened ≡ (after_act id t (Gave event bytes)).opened
opened-told id hangup (Opened at) bytes t = refl
opened-told id hangup (Bytes at n) bytes t = refl
opened-told id true (Ended at) bytes t =
    elim (at == id)
    as (λ b. (cond b (after_event t (Lost at) bytes) t).opened ≡ (cond b (after_event t (Ended at) bytes) t).opened)
    [ true ↦ refl | false ↦ refl ]
opened-told id false (Ended at) bytes t = refl
opened-told id hangup (Lost at) bytes t = refl
opened-told id hangup Quiet bytes t = refl
opened-told id hangup Over bytes t = refl

-- what holds of it holds of it as it is told, where it holds of a loss if of the end
pub holds-told : (P : Event → Type 0) (hangup : Bool) (event : Event) → ((id : ℕ) → P (Ended id) → P (Lost id)) → P event →
    P (told_as hangup event)
holds-told P hangup (Opened id) lost holds = holds
holds-told P hangup (Bytes id n) lost holds = holds
holds-told P true (Ended id) lost holds = lost id holds
holds-told P false (Ended id) lost holds = holds
holds-told P hangup (Lost id) lost holds = holds
holds-told P hangup Quiet lost holds = holds
holds-told P hangup Over lost holds = holds

-- it gives the same bytes of a buffer
pub given-told : (hangup : Bool) (event : Event) (buffer : List ℕ) → bytes_given (told_as hangup event) buffer ≡ bytes_given event buffer
given-told hangup (Opened id) buffer = refl
given-told hangup (Bytes id n) buffer = refl
given-told true (Ended id) buffer = refl
given-told false (Ended id) buffer = refl
given-told hangup (Lost id) buffer = refl
given-told hangup Quiet buffer = refl
given-told hangup Over buffer = refl

-- it tells an end only where that is no loss
pub only-told : (hangup : Bool) (event : Event) → TellsEnd hangup (told_as hangup event)
only-told hangup (Opened id) = tt
only-told hangup (Bytes id n) = tt
only-told true (Ended id) = tt
only-told false (Ended id) = refl
only-told hangup (Lost id) = tt
only-told hangup Quiet = tt
only-told hangup Over = tt
