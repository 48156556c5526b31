-- What each act leaves of the lists and the room that go with a script that is played.
use Rattle.std.proofs.Common.{◌≡◌, ◌==◌, ◌≤◌, ◌+◌, ◌&&◌, ◌||◌, not, ℕ, suc, Bool, true, false, List, [], ◌∷◌, ◌++◌, length, refl, sym, ◌∙◌, ap, cond, arith}
use Rattle.std.specs.List.{filter}
use Rattle.std.proofs.lemmas.Bool.{eqb-true, eq-eqb}
use Rattle.edge_io.specs.Acts.{Act, Listens, Gave, Took, Broke, Closed, Traffic, told, after_act, after_own, after_event}
use Rattle.edge_memory.specs.Ids.{has}
use Rattle.edge_memory.specs.MemoryHub.{room_of, room_used}
use Rattle.edge_memory.specs.Script.{opens}
use Rattle.edge_memory.specs.Stage.{Hold, live_after}
use Rattle.edge_memory.specs.StageView.{IsHeld}
use Rattle.edge_memory.specs.declared.script.Script.{Script}
use Rattle.edge_io.specs.declared.event.Event.{Event}
use Rattle.edge_io.specs.declared.event.Event.TheVariants.{Opened, Bytes, Ended, Lost, Quiet, Over}
use Rattle.edge_io.proofs.CallerLemmas.{told-one}
use Rattle.item_list.proofs.TestLemmas.{or-exchanged}

-- ---- lists of numbers

-- a number is among others and one more
pub has-push : (id at : ℕ) (ids : List ℕ) → has id (ids ++ (at ∷ [])) ≡ ((at == id) || has id ids)
has-push id at [] = elim (at == id) as (λ b. (b || false) ≡ (b || false)) [ true ↦ refl | false ↦ refl ]
has-push id at (x ∷ ids) = ap (λ (b : Bool). (x == id) || b) (has-push id at ids) ∙ or-exchanged (x == id) (at == id) (has id ids)

-- a number is among others without one
pub has-out : (id at : ℕ) (ids : List ℕ) → has id (filter (λ x. not (x == at)) ids) ≡ (not (at == id) && has id ids)
has-out id at [] = elim (at == id) as (λ b. false ≡ (not b && false)) [ true ↦ refl | false ↦ refl ]
has-out id at (x ∷ ids) =
    elim (x == at) as (λ b. (x == at) ≡ b →
    has id (cond (not b) (x ∷ filter (λ y. not (y == at)) ids) (filter (λ y. not (y == at)) ids)) ≡
    (not (at == id) && ((x == id) || has id ids))) [
      | true ↦ λ same. has-out id at ids ∙ twice (at == id) (has id ids)
          ∙ ap (λ (y : ℕ). not (at == id) && ((y == id) || has id ids)) (sym (eqb-true x at same))
      | false ↦ λ other. ap (λ (b : Bool). (x == id) || b) (has-out id at ids) ∙ apart (at == id) refl (x == id) refl other
    ] refl
  where
    twice : (a b : Bool) → (not a && b) ≡ (not a && (a || b))
    twice true b = refl
    twice false b = refl

    apart : (a : Bool) → (at == id) ≡ a → (b : Bool) → (x == id) ≡ b → (x == at) ≡ false →
        (b || (not a && has id ids)) ≡ (not a && (b || has id ids))
    apart true at_is true x_is other = (let both : (x == at) ≡ true = eq-eqb x at (eqb-true x id x_is ∙ sym (eqb-true at id at_is)) in cc)
    apart true at_is false x_is other = refl
    apart false at_is b x_is other = refl

-- a list without one number is no longer than it was
pub length-out : (at : ℕ) (ids : List ℕ) → length (filter (λ x. not (x == at)) ids) ≤ length ids
length-out at [] = omega arith
length-out at (x ∷ ids) =
    let rest : length (filter (λ y. not (y == at)) ids) ≤ length ids = length-out at ids in
    elim (x == at) as (λ b. length (cond (not b) (x ∷ filter (λ y. not (y == at)) ids) (filter (λ y. not (y == at)) ids)) ≤ suc
    (length ids)) [ true ↦ omega arith | false ↦ omega arith ]

-- a list without a number that it had is shorter
pub length-shorter : (at : ℕ) (ids : List ℕ) → has at ids ≡ true → length (filter (λ x. not (x == at)) ids) + 1 ≤ length ids
length-shorter at [] had = cc
length-shorter at (x ∷ ids) had =
    elim (x == at) as (λ b. (b || has at ids) ≡ true →
    length (cond (not b) (x ∷ filter (λ y. not (y == at)) ids) (filter (λ y. not (y == at)) ids)) + 1 ≤ suc (length ids)) [
      | true ↦ λ h. (let rest : length (filter (λ y. not (y == at)) ids) ≤ length ids = length-out at ids in omega arith)
      | false ↦ λ h. (let rest : length (filter (λ y. not (y == at)) ids) + 1 ≤ length ids = length-shorter at ids h in omega arith)
    ] had

-- ---- the room

-- the room that acts take, and one more
pub room-one : (acts : List Act) (act : Act) → room_used (acts ++ (act ∷ [])) ≡ room_used acts + room_of act
room-one [] act = omega arith
room-one (x ∷ acts) act = omega (arith, room-one acts act)

-- ---- what one act changes

-- a send that took bytes changes nothing of the connections
pub live-took : (id at : ℕ) (bytes : List ℕ) (t : Traffic) → (after_act id t (Took at bytes)).live ≡ t.live
live-took id at bytes t = elim (at == id) as (λ b. (cond b (after_own t (Took at bytes)) t).live ≡ t.live) [ true ↦ refl | false ↦ refl ]

pub closed-took : (id at : ℕ) (bytes : List ℕ) (t : Traffic) → (after_act id t (Took at bytes)).closed ≡ t.closed
closed-took id at bytes t = elim (at == id) as (λ b. (cond b (after_own t (Took at bytes)) t).closed ≡ t.closed) [
  | true ↦ refl
  | false ↦
      refl
]

pub opened-took : (id at : ℕ) (bytes : List ℕ) (t : Traffic) → (after_act id t (Took at bytes)).opened ≡ t.opened
opened-took id at bytes t = elim (at == id) as (λ b. (cond b (after_own t (Took at bytes)) t).opened ≡ t.opened) [
  | true ↦ refl
  | false ↦
      refl
]

-- a send that failed ends its connection
pub live-broke : (id at : ℕ) (t : Traffic) → (after_act id t (Broke at)).live ≡ (not (at == id) && t.live)
live-broke id at t = elim (at == id) as (λ b. (cond b (after_own t (Broke at)) t).live ≡ (not b && t.live)) [ true ↦ refl | false ↦ refl ]

pub closed-broke : (id at : ℕ) (t : Traffic) → (after_act id t (Broke at)).closed ≡ t.closed
closed-broke id at t = elim (at == id) as (λ b. (cond b (after_own t (Broke at)) t).closed ≡ t.closed) [ true ↦ refl | false ↦ refl ]

pub opened-broke : (id at : ℕ) (t : Traffic) → (after_act id t (Broke at)).opened ≡ t.opened
opened-broke id at t = elim (at == id) as (λ b. (cond b (after_own t (Broke at)) t).opened ≡ t.opened) [ true ↦ refl | false ↦ refl ]

-- a close ends its connection, and is noted of it
pub live-closed : (id at : ℕ) (t : Traffic) → (after_act id t (Closed at)).live ≡ (not (at == id) && t.live)
live-closed id at t = elim (at == id) as (λ b. (cond b (after_own t (Closed at)) t).live ≡ (not b && t.live)) [ true ↦ refl | false ↦ refl ]

pub closed-closed : (id at : ℕ) (t : Traffic) → (after_act id t (Closed at)).closed ≡ ((at == id) || t.closed)
closed-closed id at t = elim (at == id) as (λ b. (cond b (after_own t (Closed at)) t).closed ≡ (b || t.closed)) [
  | true ↦ refl
  | false ↦
      refl
]

pub opened-closed : (id at : ℕ) (t : Traffic) → (after_act id t (Closed at)).opened ≡ t.opened
opened-closed id at t = elim (at == id) as (λ b. (cond b (after_own t (Closed at)) t).opened ≡ t.opened) [ true ↦ refl | false ↦ refl ]

-- a connection is held after an event
pub live-event : (id : ℕ) (event : Event) (bytes : List ℕ) (t : Traffic) →
    (after_act id t (Gave event bytes)).live ≡ live_after event id t.live
live-event id (Opened at) bytes t =
    elim (at == id) as (λ b. (cond b (after_event t (Opened at) bytes) t).live ≡ (b || t.live)) [ true ↦ refl | false ↦ refl ]
live-event id (Bytes at n) bytes t =
    elim (at == id) as (λ b. (cond b (after_event t (Bytes at n) bytes) t).live ≡ t.live) [ true ↦ refl | false ↦ refl ]
live-event id (Ended at) bytes t = elim (at == id) as (λ b. (cond b (after_event t (Ended at) bytes) t).live ≡ t.live) [
  | true ↦
      refl
  | false ↦ refl
]
live-event id (Lost at) bytes t = elim (at == id) as (λ b. (cond b (after_event t (Lost at) bytes) t).live ≡ (not b && t.live)) [
  | true ↦
      refl
  | false ↦ refl
]
live-event id Quiet bytes t = refl
live-event id Over bytes t = refl

-- an event closes nothing
pub closed-event : (id : ℕ) (event : Event) (bytes : List ℕ) (t : Traffic) → (after_act id t (Gave event bytes)).closed ≡ t.closed
closed-event id (Opened at) bytes t =
    elim (at == id) as (λ b. (cond b (after_event t (Opened at) bytes) t).closed ≡ t.closed) [ true ↦ refl | false ↦ refl ]
closed-event id (Bytes at n) bytes t =
    elim (at == id) as (λ b. (cond b (after_event t (Bytes at n) bytes) t).closed ≡ t.closed) [ true ↦ refl | false ↦ refl ]
closed-event id (Ended at) bytes t =
    elim (at == id) as (λ b. (cond b (after_event t (Ended at) bytes) t).closed ≡ t.closed) [ true ↦ refl | false ↦ refl ]
closed-event id (Lost at) bytes t =
    elim (at == id) as (λ b. (cond b (after_event t (Lost at) bytes) t).closed ≡ t.closed) [ true ↦ refl | false ↦ refl ]
closed-event id Quiet bytes t = refl
closed-event id Over bytes t = refl

-- ---- the step of all that goes with a script

-- what was and what is after one act, which took so much room
pub record Steps (h next : Hold) (act : Act) : Type 0 where
  pub acts_are : next.acts ≡ h.acts ++ (act ∷ [])
  pub room_is : next.room ≡ h.room
  pub kept_more : next.kept ≡ h.kept + room_of act
  pub fits : h.kept + room_of act ≤ h.room
  pub few : length next.live + length next.left + 1 ≤ length h.live + length h.left + room_of act
  pub notes_less : next.notes + 1 ≡ h.notes
  pub bytes_less : h.bytes ≤ next.bytes + room_of act
  pub live_now : (id : ℕ) → (after_act id (told id h.acts) act).live ≡ has id next.live
  pub closed_now : (id : ℕ) → (after_act id (told id h.acts) act).closed ≡ has id next.closed
  pub come_now : (id : ℕ) → opens id next.left ≡ true → (after_act id (told id h.acts) act).opened ≡ false

-- so all that goes with a script stays right
pub held-step : (h next : Hold) (act : Act) → IsHeld h → Steps h next act → IsHeld next
held-step h next act held steps = record {
  kept_is = omega (arith, steps.kept_more, held.kept_is, ap room_used steps.acts_are, room-one h.acts act);
  within = omega (arith, steps.kept_more, steps.fits, steps.room_is);
  notes_left = omega (arith, steps.kept_more, steps.fits, steps.room_is, steps.few, steps.notes_less, held.notes_left, held.within);
  bytes_left = omega (arith, steps.kept_more, steps.fits, steps.room_is, steps.bytes_less, held.bytes_left, held.within);
  are_live = λ id. ap (λ (t : Traffic). t.live) (now id) ∙ steps.live_now id;
  are_closed = λ id. ap (λ (t : Traffic). t.closed) (now id) ∙ steps.closed_now id;
  to_come = λ id comes. ap (λ (t : Traffic). t.opened) (now id) ∙ steps.come_now id comes;
}
  where
    now : (id : ℕ) → told id next.acts ≡ after_act id (told id h.acts) act
    now id = ap (λ (acts : List Act). told id acts) steps.acts_are ∙ told-one id h.acts act

-- an opening
pub Steps-listens : (h next : Hold) (address : List ℕ) (hangup : Bool) → IsHeld h → h.kept + (length address + 1) ≤ h.room →
    next.acts ≡ h.acts ++ (Listens address hangup ∷ []) → next.left ≡ h.left → next.live ≡ h.live → next.closed ≡ h.closed → next.room ≡ h.room
    → next.kept ≡ h.kept + (length address + 1) → next.notes + 1 ≡ h.notes → h.bytes ≤ next.bytes + length address →
    Steps h next (Listens address hangup)
Steps-listens h next address hangup held fits acts left live closed room kept notes place = record {
  acts_are = acts;
  room_is = room;
  kept_more = kept;
  fits = fits;
  few = omega (arith, ap length live, ap length left);
  notes_less = notes;
  bytes_less = omega (arith, place);
  live_now = λ at. held.are_live at ∙ ap (λ (ids : List ℕ). has at ids) (sym live);
  closed_now = λ at. held.are_closed at ∙ ap (λ (ids : List ℕ). has at ids) (sym closed);
  come_now = λ at comes. held.to_come at (ap (λ (entries : List Script). opens at entries) (sym left) ∙ comes);
}

-- a send that took bytes
pub Steps-took : (h next : Hold) (id : ℕ) (bytes : List ℕ) → IsHeld h → h.kept + (length bytes + 1) ≤ h.room →
    next.acts ≡ h.acts ++ (Took id bytes ∷ []) → next.left ≡ h.left → next.live ≡ h.live → next.closed ≡ h.closed → next.room ≡ h.room
    → next.kept ≡ h.kept + (length bytes + 1) → next.notes + 1 ≡ h.notes → h.bytes ≤ next.bytes + length bytes →
    Steps h next (Took id bytes)
Steps-took h next id bytes held fits acts left live closed room kept notes place = record {
  acts_are = acts;
  room_is = room;
  kept_more = kept;
  fits = fits;
  few = omega (arith, ap length live, ap length left);
  notes_less = notes;
  bytes_less = omega (arith, place);
  live_now = λ at. live-took at id bytes (told at h.acts) ∙ held.are_live at ∙ ap (λ (ids : List ℕ). has at ids) (sym live);
  closed_now = λ at. closed-took at id bytes (told at h.acts) ∙ held.are_closed at ∙ ap (λ (ids : List ℕ). has at ids) (sym closed);
  come_now = λ at comes. opened-took at id bytes (told at h.acts)
      ∙ held.to_come at (ap (λ (entries : List Script). opens at entries) (sym left) ∙ comes);
}

-- a send that failed
pub Steps-broke : (h next : Hold) (id : ℕ) → IsHeld h → has id h.live ≡ true → next.acts ≡ h.acts ++ (Broke id ∷ []) → next.left ≡ h.left →
    next.live ≡ filter (λ x. not (x == id)) h.live → next.closed ≡ h.closed → next.room ≡ h.room
    → next.kept ≡ h.kept → next.notes + 1 ≡ h.notes → h.bytes ≤ next.bytes → Steps h next (Broke id)
Steps-broke h next id held live_before acts left live closed room kept notes place = record {
  acts_are = acts;
  room_is = room;
  kept_more = omega (arith, kept);
  fits = omega (arith, held.within);
  few = omega (arith, ap length live, ap length left, length-shorter id h.live live_before);
  notes_less = notes;
  bytes_less = omega (arith, place);
  live_now = λ at. live-broke at id (told at h.acts) ∙ ap (λ (b : Bool). not (id == at) && b) (held.are_live at)
      ∙ sym (has-out at id h.live) ∙ ap (λ (ids : List ℕ). has at ids) (sym live);
  closed_now = λ at. closed-broke at id (told at h.acts) ∙ held.are_closed at ∙ ap (λ (ids : List ℕ). has at ids) (sym closed);
  come_now = λ at comes. opened-broke at id (told at h.acts)
      ∙ held.to_come at (ap (λ (entries : List Script). opens at entries) (sym left) ∙ comes);
}

-- a close
pub Steps-closed : (h next : Hold) (id : ℕ) → IsHeld h → has id h.live ≡ true → next.acts ≡ h.acts ++ (Closed id ∷ []) →
    next.left ≡ h.left → next.live ≡ filter (λ x. not (x == id)) h.live → next.closed ≡ h.closed ++ (id ∷ []) → next.room ≡ h.room
    → next.kept ≡ h.kept → next.notes + 1 ≡ h.notes → h.bytes ≤ next.bytes → Steps h next (Closed id)
Steps-closed h next id held live_before acts left live closed room kept notes place = record {
  acts_are = acts;
  room_is = room;
  kept_more = omega (arith, kept);
  fits = omega (arith, held.within);
  few = omega (arith, ap length live, ap length left, length-shorter id h.live live_before);
  notes_less = notes;
  bytes_less = omega (arith, place);
  live_now = λ at. live-closed at id (told at h.acts) ∙ ap (λ (b : Bool). not (id == at) && b) (held.are_live at)
      ∙ sym (has-out at id h.live) ∙ ap (λ (ids : List ℕ). has at ids) (sym live);
  closed_now = λ at. closed-closed at id (told at h.acts) ∙ ap (λ (b : Bool). (id == at) || b) (held.are_closed at)
      ∙ sym (has-push at id h.closed) ∙ ap (λ (ids : List ℕ). has at ids) (sym closed);
  come_now = λ at comes. opened-closed at id (told at h.acts)
      ∙ held.to_come at (ap (λ (entries : List Script). opens at entries) (sym left) ∙ comes);
}
