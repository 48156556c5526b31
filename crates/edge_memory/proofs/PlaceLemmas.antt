-- How far a script was played, place by place.
use Rattle.std.proofs.Common.{◌≡◌, ◌<◌, ◌≤◌, ◌-◌, ◌+◌, ℕ, zero, suc, Bool, true, false, List, [], ◌∷◌, length, drop, get_or, refl, sym, ◌∙◌, ap, subst, cond, arith, add-one}
use Rattle.edge_memory.specs.Place.{left_of, after_use, left_from, IsFront, IsPlace, IsCue, IsShot, IsThenWithin, IsEventWithin, event_bytes, left_then, place_then, is_met}
use Rattle.edge_memory.specs.Script.{Scene, after_waits, front_scene, IsPlayable, IsPlayableBefore}
use Rattle.edge_memory.specs.Tape.{bytes_of, bytes_at, noted_bytes}
use Rattle.edge_memory.specs.declared.cue.Cue.{Cue}
use Rattle.edge_memory.specs.declared.cue.Then.{Then}
use Rattle.edge_memory.specs.declared.cue.Then.TheVariants.{Stays, Goes, Ends}
use Rattle.edge_io.specs.declared.event.Event.{Event}
use Rattle.edge_io.specs.declared.event.Event.TheVariants.{Opened, Bytes, Ended, Lost, Quiet, Over}
use Rattle.std.proofs.Math.Seq.{drop-cons}
use Rattle.edge_memory.specs.declared.script.Script as Entry

-- a scene of its parts
abbrev scene_with : Event → List ℕ → List Entry.Script → Scene
scene_with event bytes left = record { event = event; bytes = bytes; left = left }

-- a number less nothing
less_none : (n : ℕ) → n - 0 ≡ n
less_none n = omega arith

-- entries of which nothing was used are whole
pub after_use-none : (entries : List Entry.Script) → after_use 0 entries ≡ entries
after_use-none [] = refl
after_use-none (Entry.TheVariants.Opened id ∷ rest) = refl
after_use-none (Entry.TheVariants.Bytes id bytes ∷ rest) = refl
after_use-none (Entry.TheVariants.Ended id ∷ rest) = refl
after_use-none (Entry.TheVariants.Lost id ∷ rest) = refl
after_use-none (Entry.TheVariants.Quiet ∷ rest) = refl
after_use-none (Entry.TheVariants.AwaitClosed id most ∷ rest) = ap (λ (n : ℕ). Entry.TheVariants.AwaitClosed id n ∷ rest) (less_none most)

-- playable entries can be begun
pub front-none : (entries : List Entry.Script) → IsPlayable entries → IsFront 0 entries
front-none [] playable = tt
front-none (Entry.TheVariants.Opened id ∷ rest) playable = tt
front-none (Entry.TheVariants.Bytes id bytes ∷ rest) playable = playable.0
front-none (Entry.TheVariants.Ended id ∷ rest) playable = tt
front-none (Entry.TheVariants.Lost id ∷ rest) playable = tt
front-none (Entry.TheVariants.Quiet ∷ rest) playable = tt
front-none (Entry.TheVariants.AwaitClosed id most ∷ rest) playable = omega arith

-- the entries from a place on are playable
pub playable-drop : (script : List Entry.Script) (place : ℕ) → IsPlayable script → IsPlayable (drop place script)
playable-drop script zero playable = playable
playable-drop [] (suc place) playable = tt
playable-drop (entry ∷ rest) (suc place) playable = playable-drop rest place playable.1

-- a new place can be begun
pub place-none : (script : List Entry.Script) (place : ℕ) → IsPlayable script → IsPlace script place 0
place-none script place playable = front-none (drop place script) (playable-drop script place playable)

-- a wait that is met is passed
waits-met : (closed : ℕ → Bool) (entry : Entry.Script) (rest : List Entry.Script) (used : ℕ) → is_met closed entry ≡ true →
    after_waits closed (left_of entry used ∷ rest) ≡ after_waits closed rest
waits-met closed (Entry.TheVariants.Opened id) rest used met = cc
waits-met closed (Entry.TheVariants.Bytes id bytes) rest used met = cc
waits-met closed (Entry.TheVariants.Ended id) rest used met = cc
waits-met closed (Entry.TheVariants.Lost id) rest used met = cc
waits-met closed Entry.TheVariants.Quiet rest used met = cc
waits-met closed (Entry.TheVariants.AwaitClosed id most) rest used met =
    ap (λ (b : Bool). cond b (after_waits closed rest) (Entry.TheVariants.AwaitClosed id (most - used) ∷ rest)) met

-- an entry that is no such wait stays
waits-unmet : (closed : ℕ → Bool) (entry : Entry.Script) (rest : List Entry.Script) (used : ℕ) → is_met closed entry ≡ false →
    after_waits closed (left_of entry used ∷ rest) ≡ left_of entry used ∷ rest
waits-unmet closed (Entry.TheVariants.Opened id) rest used met = refl
waits-unmet closed (Entry.TheVariants.Bytes id bytes) rest used met = refl
waits-unmet closed (Entry.TheVariants.Ended id) rest used met = refl
waits-unmet closed (Entry.TheVariants.Lost id) rest used met = refl
waits-unmet closed Entry.TheVariants.Quiet rest used met = refl
waits-unmet closed (Entry.TheVariants.AwaitClosed id most) rest used met =
    ap (λ (b : Bool). cond b (after_waits closed rest) (Entry.TheVariants.AwaitClosed id (most - used) ∷ rest)) met

-- the wait at a place that is met is passed
pub met-at : (closed : ℕ → Bool) (script : List Entry.Script) (place used : ℕ) (d : Entry.Script) → place < length script →
    is_met closed (get_or script place d) ≡ true →
    after_waits closed (left_from script place used) ≡ after_waits closed (left_from script (place + 1) 0)
met-at closed [] place used d there met = absurd (omega arith)
met-at closed (entry ∷ rest) zero used d there met = waits-met closed entry rest used met
    ∙ ap (after_waits closed) (sym (after_use-none rest))
met-at closed (entry ∷ rest) (suc place) used d there met =
    let next : suc place + 1 ≡ suc (place + 1) = omega arith in
    rw next (met-at closed rest place used d (omega arith) met)

-- the entry at a place that isn't such a wait stays
pub unmet-at : (closed : ℕ → Bool) (script : List Entry.Script) (place used : ℕ) (d : Entry.Script) → place < length script →
    is_met closed (get_or script place d) ≡ false → after_waits closed (left_from script place used) ≡ left_from script place used
unmet-at closed [] place used d there met = absurd (omega arith)
unmet-at closed (entry ∷ rest) zero used d there met = waits-unmet closed entry rest used met
unmet-at closed (entry ∷ rest) (suc place) used d there met = unmet-at closed rest place used d (omega arith) met

-- nothing is left beyond the end
pub left-beyond : (script : List Entry.Script) (place used : ℕ) → length script ≤ place → left_from script place used ≡ []
left-beyond [] zero used beyond = refl
left-beyond [] (suc place) used beyond = refl
left-beyond (entry ∷ rest) zero used beyond = absurd (omega arith)
left-beyond (entry ∷ rest) (suc place) used beyond = left-beyond rest place used (omega arith)

-- the bytes of the entry at a place are its own
pub bytes-at : (script : List Entry.Script) (place : ℕ) (d : Entry.Script) → place < length script →
    bytes_of (get_or script place d) ≡ bytes_at script place
bytes-at [] place d there = absurd (omega arith)
bytes-at (entry ∷ rest) zero d there = refl
bytes-at (entry ∷ rest) (suc place) d there = bytes-at rest place d (omega arith)

-- beyond the end there are no bytes
pub bytes-beyond : (script : List Entry.Script) (place : ℕ) → length script ≤ place → [] ≡ bytes_at script place
bytes-beyond [] place beyond = refl
bytes-beyond (entry ∷ rest) zero beyond = absurd (omega arith)
bytes-beyond (entry ∷ rest) (suc place) beyond = bytes-beyond rest place (omega arith)

-- an event's bytes in the script are those of the entry at its place
pub noted : (script : List Entry.Script) (event : Event) (place used : ℕ) →
    noted_bytes script event place used ≡ event_bytes event (drop used (bytes_at script place))
noted script (Opened id) place used = refl
noted script (Bytes id n) place used = refl
noted script (Ended id) place used = refl
noted script (Lost id) place used = refl
noted script Quiet place used = refl
noted script Over place used = refl

-- what is left after an entry was played is what is left from the new place on
left-moved : (script : List Entry.Script) (place : ℕ) (entry : Entry.Script) (after : Then) (to : ℕ × ℕ) → place < length script →
    drop place script ≡ entry ∷ drop (suc place) script → to ≡ place_then after place (length script) →
    left_then after entry (drop (suc place) script) ≡ left_from script to.0 to.1
left-moved script place entry (Stays used) to there here moved = rw (moved, here) refl
left-moved script place entry Goes to there here moved = rw (moved, add-one) (sym (after_use-none (drop (suc place) script)))
left-moved script place entry Ends to there here moved = rw moved (sym (left-beyond script (length script) 0 (omega arith)))

-- the new place can be gone on from
place-moved : (script : List Entry.Script) (place : ℕ) (entry : Entry.Script) (after : Then) (to : ℕ × ℕ) → IsPlayable script →
    drop place script ≡ entry ∷ drop (suc place) script → IsThenWithin after entry → to ≡ place_then after place (length script) →
    IsPlace script to.0 to.1
place-moved script place entry (Stays used) to playable here within moved = rw (moved, here) within
place-moved script place entry Goes to playable here within moved = rw moved (place-none script (place + 1) playable)
place-moved script place entry Ends to playable here within moved = rw moved (place-none script (length script) playable)

-- the shot of the entry at a place
pub shot-of : (script : List Entry.Script) (place used most : ℕ) (entry : Entry.Script) (cue : Cue) (to : ℕ × ℕ) → place < length script →
    entry ≡ get_or script place entry → IsPlayable script → IsCue entry used most cue → to ≡ place_then cue.after place (length script)
    → IsShot script place used most (record { event = cue.event; place = to.0; used = to.1 })
shot-of script place used most entry cue to there is playable played moved = record {
  scene = ap (λ (entries : List Entry.Script). front_scene most (after_use used entries)) here ∙ played.scene (drop (suc place) script)
      ∙ same;
  is_place = place-moved script place entry cue.after to playable here played.within moved;
  bytes = subst (λ (bytes : List ℕ). IsEventWithin cue.event (drop used bytes)) own played.bytes;
  below = played.below;
}
  where
    here : drop place script ≡ entry ∷ drop (suc place) script
    here = drop-cons script place entry there ∙ ap (λ (e : Entry.Script). e ∷ drop (suc place) script) (sym is)

    own : bytes_of entry ≡ bytes_at script place
    own = ap bytes_of is ∙ bytes-at script place entry there

    bytes_same : event_bytes cue.event (drop used (bytes_of entry)) ≡ noted_bytes script cue.event place used
    bytes_same = ap (λ (bytes : List ℕ). event_bytes cue.event (drop used bytes)) own ∙ sym (noted script cue.event place used)

    left_same : left_then cue.after entry (drop (suc place) script) ≡ left_from script to.0 to.1
    left_same = left-moved script place entry cue.after to there here moved

    same : scene_with cue.event (event_bytes cue.event (drop used (bytes_of entry))) (left_then cue.after entry (drop (suc place) script)) ≡
        scene_with cue.event (noted_bytes script cue.event place used) (left_from script to.0 to.1)
    same = ap (λ (bytes : List ℕ). scene_with cue.event bytes (left_then cue.after entry (drop (suc place) script))) bytes_same
        ∙ ap (λ (left : List Entry.Script). scene_with cue.event (noted_bytes script cue.event place used) left) left_same

-- an entry of a playable script may stand before those that follow
pub before-at : (script : List Entry.Script) (place : ℕ) (entry : Entry.Script) → place < length script →
    entry ≡ get_or script place entry → IsPlayable script → IsPlayableBefore entry (drop (place + 1) script)
before-at [] place entry there is playable = absurd (omega arith)
before-at (x ∷ rest) zero entry there is playable = subst (λ (e : Entry.Script). IsPlayableBefore e rest) (sym is) playable.0
before-at (x ∷ rest) (suc place) entry there is playable =
    let next : suc place + 1 ≡ suc (place + 1) = omega arith in
    rw next (before-at rest place entry (omega arith) is playable.1)
