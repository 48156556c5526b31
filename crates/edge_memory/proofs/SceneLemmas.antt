-- What the next scene of a script opens and leaves.
use Rattle.std.proofs.Common.{◌≡◌, ◌==◌, ◌≤◌, ◌+◌, ◌||◌, ℕ, zero, suc, Bool, true, false, List, [], ◌∷◌, ◌++◌, length, take, drop, min, refl, sym, ◌∙◌, ap, cond, arith, length-append}
use Rattle.std.proofs.lemmas.List.{length-drop, length-take-le}
use Rattle.std.proofs.Math.Seq.{take-append_seam}
use Rattle.std.proofs.lemmas.Bool.{eqb-true, eq-eqb}
use Rattle.edge_io.specs.Acts.{Act, Gave, Traffic, told, after_act, after_event}
use Rattle.edge_io.specs.Hub.{FitsBuffer, IsFreshAmong, bytes_given}
use Rattle.edge_memory.specs.Place.{after_use, left_from, IsFront, IsPlace, IsEventWithin, IsEventBelow, event_bytes}
use Rattle.edge_memory.specs.Script.{front_scene, after_waits, IsPlayable, opens}
use Rattle.edge_memory.specs.Stage.{opened_by}
use Rattle.edge_io.specs.declared.event.Event.{Event}
use Rattle.edge_io.specs.declared.event.Event.TheVariants.{Opened, Bytes, Ended, Lost, Quiet, Over}
use Rattle.edge_memory.specs.declared.script.Script as Entry
use Rattle.edge_memory.proofs.PlaceLemmas.{playable-drop}

-- the same waits are passed by the same closed connections
pub waits-same : (f g : ℕ → Bool) (entries : List Entry.Script) → ((id : ℕ) → f id ≡ g id) → after_waits f entries ≡ after_waits g entries
waits-same f g [] same = refl
waits-same f g (Entry.TheVariants.Opened id ∷ rest) same = refl
waits-same f g (Entry.TheVariants.Bytes id bytes ∷ rest) same = refl
waits-same f g (Entry.TheVariants.Ended id ∷ rest) same = refl
waits-same f g (Entry.TheVariants.Lost id ∷ rest) same = refl
waits-same f g (Entry.TheVariants.Quiet ∷ rest) same = refl
waits-same f g (Entry.TheVariants.AwaitClosed id most ∷ rest) same =
    ap (λ (b : Bool). cond b (after_waits f rest) (Entry.TheVariants.AwaitClosed id most ∷ rest)) (same id)
    ∙ ap (λ (left : List Entry.Script). cond (g id) left (Entry.TheVariants.AwaitClosed id most ∷ rest)) (waits-same f g rest same)

-- waits open nothing
pub opens-waits : (f : ℕ → Bool) (id : ℕ) (entries : List Entry.Script) → opens id (after_waits f entries) ≡ opens id entries
opens-waits f id [] = refl
opens-waits f id (Entry.TheVariants.Opened at ∷ rest) = refl
opens-waits f id (Entry.TheVariants.Bytes at bytes ∷ rest) = refl
opens-waits f id (Entry.TheVariants.Ended at ∷ rest) = refl
opens-waits f id (Entry.TheVariants.Lost at ∷ rest) = refl
opens-waits f id (Entry.TheVariants.Quiet ∷ rest) = refl
opens-waits f id (Entry.TheVariants.AwaitClosed at most ∷ rest) =
    elim (f at) as (λ b. opens id (cond b (after_waits f rest) (Entry.TheVariants.AwaitClosed at most ∷ rest)) ≡ opens id rest) [
      | true ↦
          opens-waits f id rest
      | false ↦ refl
    ]

-- no entry comes in by passing waits
pub length-waits : (f : ℕ → Bool) (entries : List Entry.Script) → length (after_waits f entries) ≤ length entries
length-waits f [] = omega arith
length-waits f (Entry.TheVariants.Opened at ∷ rest) = omega arith
length-waits f (Entry.TheVariants.Bytes at bytes ∷ rest) = omega arith
length-waits f (Entry.TheVariants.Ended at ∷ rest) = omega arith
length-waits f (Entry.TheVariants.Lost at ∷ rest) = omega arith
length-waits f (Entry.TheVariants.Quiet ∷ rest) = omega arith
length-waits f (Entry.TheVariants.AwaitClosed at most ∷ rest) =
    let less : length (after_waits f rest) ≤ length rest = length-waits f rest in
    elim (f at) as (λ b. length (cond b (after_waits f rest) (Entry.TheVariants.AwaitClosed at most ∷ rest)) ≤ suc (length rest)) [
      | true ↦
          omega arith
      | false ↦ omega arith
    ]

-- what stays after waits is playable
pub playable-waits : (f : ℕ → Bool) (entries : List Entry.Script) → IsPlayable entries → IsPlayable (after_waits f entries)
playable-waits f [] playable = tt
playable-waits f (Entry.TheVariants.Opened at ∷ rest) playable = playable
playable-waits f (Entry.TheVariants.Bytes at bytes ∷ rest) playable = playable
playable-waits f (Entry.TheVariants.Ended at ∷ rest) playable = playable
playable-waits f (Entry.TheVariants.Lost at ∷ rest) playable = playable
playable-waits f (Entry.TheVariants.Quiet ∷ rest) playable = playable
playable-waits f (Entry.TheVariants.AwaitClosed at most ∷ rest) playable =
    elim (f at) as (λ b. IsPlayable (cond b (after_waits f rest) (Entry.TheVariants.AwaitClosed at most ∷ rest))) [
      | true ↦
          playable-waits f rest playable.1
      | false ↦ playable
    ]

-- what is left of playable entries is playable
playable-use : (used : ℕ) (entries : List Entry.Script) → IsPlayable entries → IsFront used entries → IsPlayable (after_use used entries)
playable-use used [] playable front = tt
playable-use used (Entry.TheVariants.Opened at ∷ rest) playable front = playable
playable-use used (Entry.TheVariants.Bytes at bytes ∷ rest) playable front = (omega (arith, length-drop used bytes), playable.1)
playable-use used (Entry.TheVariants.Ended at ∷ rest) playable front = playable
playable-use used (Entry.TheVariants.Lost at ∷ rest) playable front = playable
playable-use used (Entry.TheVariants.Quiet ∷ rest) playable front = playable
playable-use used (Entry.TheVariants.AwaitClosed at most ∷ rest) playable front = (tt, playable.1)

-- what is left from a place on is playable
pub playable-left : (script : List Entry.Script) (place used : ℕ) → IsPlayable script → IsPlace script place used →
    IsPlayable (left_from script place used)
playable-left script place used playable is_place = playable-use used (drop place script) (playable-drop script place playable) is_place

-- what a scene leaves opens no more than the entries did
pub front-opens : (id most : ℕ) (entries : List Entry.Script) → opens id (front_scene most entries).left ≡ true → opens id entries ≡ true
front-opens id most [] comes = comes
front-opens id most (Entry.TheVariants.Opened at ∷ rest) comes =
    elim (at == id) as (λ b. (b || opens id rest) ≡ true) [ true ↦ refl | false ↦ comes ]
front-opens id most (Entry.TheVariants.Bytes at bytes ∷ rest) comes =
    (elim (min (length bytes) most == length bytes)
    as (λ b. opens id (cond b rest (Entry.TheVariants.Bytes at (drop (min (length bytes) most) bytes) ∷ rest)) ≡ true →
    opens id rest ≡ true) [ true ↦ λ h. h | false ↦ λ h. h ]) comes
front-opens id most (Entry.TheVariants.Ended at ∷ rest) comes = comes
front-opens id most (Entry.TheVariants.Lost at ∷ rest) comes = comes
front-opens id most (Entry.TheVariants.Quiet ∷ rest) comes = comes
front-opens id most (Entry.TheVariants.AwaitClosed at zero ∷ rest) comes = cc
front-opens id most (Entry.TheVariants.AwaitClosed at (suc calls) ∷ rest) comes = comes

-- a scene leaves no more entries, and one less where it opens a connection
pub front-few : (most : ℕ) (entries : List Entry.Script) →
    length (front_scene most entries).left + opened_by (front_scene most entries).event ≤ length entries
front-few most [] = omega arith
front-few most (Entry.TheVariants.Opened at ∷ rest) = omega arith
front-few most (Entry.TheVariants.Bytes at bytes ∷ rest) =
    elim (min (length bytes) most == length bytes)
    as (λ b. length (cond b rest (Entry.TheVariants.Bytes at (drop (min (length bytes) most) bytes) ∷ rest)) + 0 ≤ suc (length rest))
    [ true ↦ omega arith | false ↦ omega arith ]
front-few most (Entry.TheVariants.Ended at ∷ rest) = omega arith
front-few most (Entry.TheVariants.Lost at ∷ rest) = omega arith
front-few most (Entry.TheVariants.Quiet ∷ rest) = omega arith
front-few most (Entry.TheVariants.AwaitClosed at zero ∷ rest) = omega arith
front-few most (Entry.TheVariants.AwaitClosed at (suc calls) ∷ rest) = omega arith

-- an event that opens no connection leaves what was opened
opened_same : (id : ℕ) (event : Event) (bytes : List ℕ) (t : Traffic) → opened_by event ≡ 0 →
    (after_act id t (Gave event bytes)).opened ≡ t.opened
opened_same id (Opened at) bytes t none = cc
opened_same id (Bytes at n) bytes t none =
    elim (at == id) as (λ b. (cond b (after_event t (Bytes at n) bytes) t).opened ≡ t.opened) [ true ↦ refl | false ↦ refl ]
opened_same id (Ended at) bytes t none =
    elim (at == id) as (λ b. (cond b (after_event t (Ended at) bytes) t).opened ≡ t.opened) [ true ↦ refl | false ↦ refl ]
opened_same id (Lost at) bytes t none =
    elim (at == id) as (λ b. (cond b (after_event t (Lost at) bytes) t).opened ≡ t.opened) [ true ↦ refl | false ↦ refl ]
opened_same id Quiet bytes t none = refl
opened_same id Over bytes t none = refl

-- what is still to be opened wasn't opened by the scene
pub come-scene : (id most : ℕ) (entries : List Entry.Script) (bytes : List ℕ) (t : Traffic) → IsPlayable entries →
    opens id (front_scene most entries).left ≡ true → t.opened ≡ false →
    (after_act id t (Gave (front_scene most entries).event bytes)).opened ≡ false
come-scene id most [] bytes t playable comes before = cc
come-scene id most (Entry.TheVariants.Opened at ∷ rest) bytes t playable comes before =
    elim (at == id) as (λ b. (at == id) ≡ b → (cond b (after_event t (Opened at) bytes) t).opened ≡ false) [
      | true ↦ λ same. (let twice : opens at rest ≡ true = ap (λ (n : ℕ). opens n rest) (eqb-true at id same) ∙ comes in cc)
      | false ↦ λ other. before
    ] refl
come-scene id most (Entry.TheVariants.Bytes at given ∷ rest) bytes t playable comes before =
    opened_same id (Bytes at (min (length given) most)) bytes t refl ∙ before
come-scene id most (Entry.TheVariants.Ended at ∷ rest) bytes t playable comes before = opened_same id (Ended at) bytes t refl ∙ before
come-scene id most (Entry.TheVariants.Lost at ∷ rest) bytes t playable comes before = opened_same id (Lost at) bytes t refl ∙ before
come-scene id most (Entry.TheVariants.Quiet ∷ rest) bytes t playable comes before = before
come-scene id most (Entry.TheVariants.AwaitClosed at zero ∷ rest) bytes t playable comes before = before
come-scene id most (Entry.TheVariants.AwaitClosed at (suc calls) ∷ rest) bytes t playable comes before = before

-- a connection that a scene opens is a new one
pub fresh-scene : (most : ℕ) (entries : List Entry.Script) (acts : List Act) →
    ((id : ℕ) → opens id entries ≡ true → (told id acts).opened ≡ false) → IsFreshAmong acts (front_scene most entries).event
fresh-scene most [] acts come = tt
fresh-scene most (Entry.TheVariants.Opened at ∷ rest) acts come = come at (ap (λ (b : Bool). b || opens at rest) (eq-eqb at at refl))
fresh-scene most (Entry.TheVariants.Bytes at bytes ∷ rest) acts come = tt
fresh-scene most (Entry.TheVariants.Ended at ∷ rest) acts come = tt
fresh-scene most (Entry.TheVariants.Lost at ∷ rest) acts come = tt
fresh-scene most (Entry.TheVariants.Quiet ∷ rest) acts come = tt
fresh-scene most (Entry.TheVariants.AwaitClosed at zero ∷ rest) acts come = tt
fresh-scene most (Entry.TheVariants.AwaitClosed at (suc calls) ∷ rest) acts come = tt

-- an event's bytes at the front of a buffer that they fit are the event's, and the buffer is as long as it was
pub fits-event : (event : Event) (rest buffer after : List ℕ) (most : ℕ) → IsEventWithin event rest → IsEventBelow event most →
    most ≤ length buffer → after ≡ event_bytes event rest ++ drop (length (event_bytes event rest)) buffer → FitsBuffer after event
fits-event (Opened id) rest buffer after most within below room filled = tt
fits-event (Bytes id n) rest buffer after most within below room filled = (
  within.0,
  omega (
    arith,
    ap length filled,
    length-append (take n rest) (drop (length (take n rest)) buffer),
    length-take-le n rest within.1,
    length-drop (length (take n rest)) buffer,
  ),
)
fits-event (Ended id) rest buffer after most within below room filled = tt
fits-event (Lost id) rest buffer after most within below room filled = tt
fits-event Quiet rest buffer after most within below room filled = tt
fits-event Over rest buffer after most within below room filled = tt

-- the bytes that such a buffer gives are the event's
pub given-event : (event : Event) (rest buffer after : List ℕ) → IsEventWithin event rest →
    after ≡ event_bytes event rest ++ drop (length (event_bytes event rest)) buffer → bytes_given event after ≡ event_bytes event rest
given-event (Opened id) rest buffer after within filled = refl
given-event (Bytes id n) rest buffer after within filled =
    ap (take n) filled
    ∙ ap (λ (k : ℕ). take k (take n rest ++ drop (length (take n rest)) buffer)) (sym (length-take-le n rest within.1))
    ∙ take-append_seam (take n rest) (drop (length (take n rest)) buffer)
given-event (Ended id) rest buffer after within filled = refl
given-event (Lost id) rest buffer after within filled = refl
given-event Quiet rest buffer after within filled = refl
given-event Over rest buffer after within filled = refl
