-- What is true of a state stays so, whatever changes.
use Rattle.std.proofs.Common.{◌≡◌, ◌≢◌, ℕ, List, [], ◌∷◌, ◌++◌, Option, Some, None, inl, inr, refl, sym, ◌∙◌, ap, subst, arith, append-nil}
use Rattle.std.proofs.lemmas.Bool.{cases_eq}
use Rattle.edge_io.specs.Acts.{Act}
use Rattle.edge_io.specs.declared.event.Event.TheVariants as event
use Rattle.edge_io.specs.declared.event.Event.{Event}
use Rattle.hall.proofs.ChangeLemmas.{Changes, changes_gone, changes_now, changes_put}
use Rattle.hall.proofs.IdLemmas.{among_first, among_kept, among_last, among_split, among_without, different_last, different_without}
use Rattle.hall.proofs.SoundInLemmas.{more_idle, read_sound, waits_sound, sound_more, takes_sound, goes_sound, goes_waits, IsLeft, is_gone, is_same, is_more, left_serves, further_sound, piece_waits}
use Rattle.hall.specs.Allowed as rows
use Rattle.hall.specs.Allowed.{AreAllowed}
use Rattle.hall.specs.Held.{AreDifferent, IsAmong}
use Rattle.hall.specs.Sends.{sent_more, ServesEach}
use Rattle.hall.specs.Sound.{AreWaiting, IsSound, IsSoundIn, IsWaiting}
use Rattle.hall.specs.State.{Connection, Phase, Reading, Waits, Answered, Silent, Service, State, changed, empty_hall, freed, left_as, put, waits_as, without}
use Rattle.hall.specs.Steps as steps
use Rattle.hall.specs.Steps.{Hears, Loses, Opens, Step, Works, session, turned_away}
use Rattle.hall.specs.Sends.ServesEach.{none as none_served, more as more_served}
use Rattle.session_answers.specs.Stored.{Stored}

-- ---- Those that wait

-- these connections, none of them twice, are those whose searches wait besides one
record WaitBeside (s : State) (id : ℕ) (ids : List ℕ) : Type 0 where
  waits : (j : ℕ) → IsAmong j ids → IsWaiting s j
  once : AreDifferent ids
  whole : (j : ℕ) → j ≢ id → IsWaiting s j → IsAmong j ids
  none : IsAmong id ids → ⊥

-- so are all that wait besides one that doesn't
beside_all : (s : State) (id : ℕ) (ids : List ℕ) → AreWaiting s ids → (IsWaiting s id → ⊥) → WaitBeside s id ids
beside_all s id ids all never = record {
  waits = all.waits;
  once = all.once;
  whole = λ j ne waits. all.whole j waits;
  none = λ among. never (all.waits id among);
}

-- those behind the first
beside_first : (s : State) (id : ℕ) (ids : List ℕ) → AreWaiting s (id ∷ ids) → WaitBeside s id ids
beside_first s id ids all = record {
  waits = λ j is. all.waits j (inr is);
  once = all.once.1;
  whole = λ j ne waits. elim (all.whole j waits) [ inl same ↦ absurd (ne (sym same)) | inr later ↦ later ];
  none = all.once.0;
}

-- and all that wait without one
beside_without : (s : State) (id : ℕ) (ids : List ℕ) → AreWaiting s ids → WaitBeside s id (without id ids)
beside_without s id ids all = record {
  waits = λ j is. all.waits j (among_without id j ids is).1;
  once = different_without id ids all.once;
  whole = λ j ne waits. among_kept id j ids ne (all.whole j waits);
  none = λ is. (among_without id id ids is).0 refl;
}

module _ (s new : State) (id : ℕ) (x : Option Connection) (added : List Stored) (changes : Changes s new id x added) where
  -- another connection waits still
  waits_else : (j : ℕ) → j ≢ id → IsWaiting s j → IsWaiting new j
  waits_else j ne waits = record { c = waits.c; known = changes.others j ne ∙ waits.known; due = waits.due; phase = waits.phase }

  -- and waited before
  waited_else : (j : ℕ) → j ≢ id → IsWaiting new j → IsWaiting s j
  waited_else j ne waits =
      record { c = waits.c; known = sym (changes.others j ne) ∙ waits.known; due = waits.due; phase = waits.phase }

  -- one that is as far as this doesn't wait
  idle_now : (now : Connection) (p : Phase) → x ≡ Some now → now.phase ≡ p → ((due : ℕ) → p ≡ Waits due → ⊥) →
      IsWaiting new id → ⊥
  idle_now now p is phase never waits =
      let one : Some waits.c ≡ Some now = sym waits.known ∙ changes.here ∙ is in
      let same : waits.c ≡ now = cc in
      never waits.due (sym phase ∙ ap (λ (d : Connection). d.phase) (sym same) ∙ waits.phase)

  module _ (ids : List ℕ) (beside : WaitBeside s id ids) where
    -- the others wait still
    others_wait : (j : ℕ) → IsAmong j ids → IsWaiting new j
    others_wait j is = waits_else j (λ e. beside.none (subst (λ (i : ℕ). IsAmong i ids) e is)) (beside.waits j is)

    -- and nobody else, where the one doesn't wait now
    waiting_others : (IsWaiting new id → ⊥) → AreWaiting new ids
    waiting_others never = record {
      waits = others_wait;
      once = beside.once;
      whole = λ j waits. elim (cases_eq j id) [
        | inl same ↦ absurd (never (subst (IsWaiting new) same waits))
        | inr other ↦ beside.whole j other (waited_else j other waits)
      ];
    }

    -- and that one besides, where it does
    waiting_last : IsWaiting new id → AreWaiting new (ids ++ id ∷ [])
    waiting_last here = record {
      waits = λ j among. elim (among_split j ids (id ∷ []) among) [
        | inl first ↦ others_wait j first
        | inr (inl same) ↦ subst (IsWaiting new) same here
        | inr (inr never) ↦ absurd never
      ];
      once = different_last ids id beside.once beside.none;
      whole = λ j waits. elim (cases_eq j id) [
        | inl same ↦ among_last j ids (id ∷ []) (inl (sym same))
        | inr other ↦ among_first j ids (id ∷ []) (beside.whole j other (waited_else j other waits))
      ];
    }

    -- by how far it is now
    waiting_by : (now : Connection) (p : Phase) → x ≡ Some now → now.phase ≡ p → AreWaiting new (ids ++ waits_as p id)
    waiting_by now Reading is phase =
        subst (AreWaiting new) (sym (append-nil ids)) (waiting_others (idle_now now Reading is phase (λ due clash. cc)))
    waiting_by now (Answered frame sent) is phase =
        subst (AreWaiting new) (sym (append-nil ids))
        (waiting_others (idle_now now (Answered frame sent) is phase (λ due clash. cc)))
    waiting_by now Silent is phase =
        subst (AreWaiting new) (sym (append-nil ids)) (waiting_others (idle_now now Silent is phase (λ due clash. cc)))
    waiting_by now (Waits due) is phase =
        waiting_last (record { c = now; known = changes.here ∙ is; due = due; phase = phase })

-- ---- A state

-- what is heard of a connection leaves whether it is turned away, and how far it is
abbrev pub IsHearing : (Connection → Connection) → Type 0
IsHearing heard = (c : Connection) → ((heard c).away ≡ c.away) × ((heard c).phase ≡ c.phase)

module _ (service : Service) (s : State) (sound : IsSound service s) where
  -- a connection that isn't held doesn't wait, nor does one that is as far as this
  none_waits : (id : ℕ) → s.known id ≡ None → IsWaiting s id → ⊥
  none_waits id none waits = let clash : Some waits.c ≡ None = sym waits.known ∙ none in cc

  still_waits : (id : ℕ) (c : Connection) → s.known id ≡ Some c → ((due : ℕ) → c.phase ≡ Waits due → ⊥) → IsWaiting s id → ⊥
  still_waits id c known still waits =
      let one : Some waits.c ≡ Some c = sym waits.known ∙ known in
      let same : waits.c ≡ c = cc in
      still waits.due (ap (λ (d : Connection). d.phase) (sym same) ∙ waits.phase)

  -- a sound connection changes, and those wait who have to
  sound_by : (new : State) (id : ℕ) (x : Option Connection) (added : List Stored) → Changes s new id x added →
      ((c : Connection) → x ≡ Some c → IsSoundIn service new.stored c c.phase) → AreWaiting new new.waiting → IsSound service new
  sound_by new id x added changes inside queued = record {
    sound = λ j c known. elim (cases_eq j id) [
      | inl same ↦ inside c (sym changes.here ∙ sym (ap new.known same) ∙ known)
      | inr other ↦
          subst (λ (l : List Stored). IsSoundIn service l c c.phase) (sym changes.stored)
          (sound_more service s.stored added c c.phase (sound.sound j c (sym (changes.others j other) ∙ known)))
    ];
    queued = queued;
  }

  -- a connection that changes, while these others wait
  sound_changed : (ids : List ℕ) (id : ℕ) (now : Connection) (added : List Stored) → WaitBeside s id ids →
      IsSoundIn service (s.stored ++ added) now now.phase → IsSound service (changed (record s { waiting = ids }) id now added)
  sound_changed ids id now added beside inside =
      let new = changed (record s { waiting = ids }) id now added in
      let changes = changes_now s ids id now added in
      sound_by new id (Some now) added changes
      (λ c is. let same : now ≡ c = cc in subst (λ (d : Connection). IsSoundIn service new.stored d d.phase) same inside)
      (waiting_by s new id (Some now) added changes ids beside now now.phase refl refl)

  -- one that is gone
  pub sound_gone : (id : ℕ) → IsSound service (freed s id)
  sound_gone id =
      let changes = changes_gone s id in
      sound_by (freed s id) id None [] changes (λ c is. (let clash : None ≡ Some c = is in absurd (cc)))
      (waiting_others s (freed s id) id None [] changes (without id s.waiting) (beside_without s id s.waiting sound.queued)
      (λ waits. (let clash : Some waits.c ≡ None = sym waits.known ∙ changes.here in cc)))

  -- one of which this is known, and which waits where it did
  sound_put : (id : ℕ) (now : Connection) → IsSoundIn service s.stored now now.phase →
      (AreWaiting (put s id (Some now)) s.waiting) → IsSound service (put s id (Some now))
  sound_put id now inside queued =
      sound_by (put s id (Some now)) id (Some now) [] (changes_put s id (Some now))
      (λ c is. let same : now ≡ c = cc in subst (λ (d : Connection). IsSoundIn service s.stored d d.phase) same inside) queued

  -- and so one that doesn't wait, nor did before
  sound_idle : (id : ℕ) (now : Connection) → (IsWaiting s id → ⊥) → waits_as now.phase id ≡ [] →
      IsSoundIn service s.stored now now.phase → IsSound service (put s id (Some now))
  sound_idle id now never idle inside =
      let new = put s id (Some now) in
      sound_put id now inside
      (subst (AreWaiting new) (ap (λ (ids : List ℕ). s.waiting ++ ids) idle ∙ append-nil s.waiting)
      (waiting_by s new id (Some now) [] (changes_put s id (Some now)) s.waiting (beside_all s id s.waiting sound.queued never) now
      now.phase refl refl))

  -- one that opens
  sound_opened : (id : ℕ) (now : Connection) → s.known id ≡ None → waits_as now.phase id ≡ [] →
      IsSoundIn service s.stored now now.phase → IsSound service (put s id (Some now))
  sound_opened id now none = sound_idle id now (none_waits id none)

  -- ---- Events

  pub sound_opens : (id : ℕ) (new : State) (shut : Option ℕ) → Opens s id new shut → IsSound service new
  sound_opens id new shut (steps.again known) = sound
  sound_opens id new shut (steps.held none room) = sound_opened id session none refl (refl, refl)
  sound_opens id new shut (steps.away none full room) = sound_opened id turned_away none refl (rows.away refl, omega arith)
  sound_opens id new shut (steps.full none full aways) = sound

  pub sound_hears : (id : ℕ) (heard : Connection → Connection) (new : State) → IsHearing heard → Hears service s id heard new →
      IsSound service new
  sound_hears id heard new alike (steps.ignored other) = sound
  sound_hears id heard new alike (steps.kept {c} {now} {added} known reads takes) =
      let session_is = (read_sound service s.stored c c.phase (sound.sound id c known) reads).0 in
      sound_changed s.waiting id now added
      (beside_all s id s.waiting sound.queued
      (still_waits id c known (λ due waits. let clash : Reading ≡ Waits due = sym reads ∙ waits in cc)))
      (takes_sound service s.stored c (heard c) session_is ((alike c).0 ∙ session_is) ((alike c).1 ∙ reads) now added takes)

  pub sound_loses : (id : ℕ) (new : State) → Loses s id new → IsSound service new
  sound_loses id new (steps.stranger none) = sound
  sound_loses id new (steps.gone known) = sound_gone id

  pub sound_step : (event : Event) (bytes : List ℕ) (new : State) (shut : Option ℕ) → Step service s event bytes new shut →
      IsSound service new
  sound_step (event.Opened id) bytes new shut step = sound_opens id new shut step
  sound_step (event.Bytes id n) bytes new shut step = sound_hears id (steps.with_bytes bytes) new (λ c. (refl, refl)) step.0
  sound_step (event.Ended id) bytes new shut step = sound_hears id steps.with_end new (λ c. (refl, refl)) step.0
  sound_step (event.Lost id) bytes new shut step = sound_loses id new step.0
  sound_step event.Quiet bytes new shut step = subst (IsSound service) (sym step.0) sound
  sound_step event.Over bytes new shut step = subst (IsSound service) (sym step.0) sound

  -- ---- Work

  pub sound_works : (new : State) → Works service s new → IsSound service new
  sound_works new (steps.idle none) = sound
  sound_works new (steps.turn {id} {rest} {c} {now} first known goes) =
      let waits = goes_waits service s.stored c now goes in
      sound_changed rest id now [] (beside_first s id rest (subst (AreWaiting s) first sound.queued))
      (goes_sound service s.stored c now (waits_sound service s.stored c c.phase waits.0 (sound.sound id c known) waits.1) goes)

  -- ---- Serving

  pub sound_left : (id : ℕ) (c : Connection) (left : Option Connection) → s.known id ≡ Some c → IsLeft c left →
      IsSound service (left_as s id left)
  sound_left id c left known is_gone = sound_gone id
  sound_left id c left known is_same =
      let alike : (j : ℕ) → (put s id (Some c)).known j ≡ s.known j =
      λ j. elim (cases_eq j id) [
        | inl own ↦ ap (put s id (Some c)).known own ∙ (changes_put s id (Some c)).here ∙ sym known ∙ sym (ap s.known own)
        | inr other ↦ (changes_put s id (Some c)).others j other
      ] in
      sound_put id c (sound.sound id c known)
      (record {
        waits = λ j is.
            let waits = sound.queued.waits j is in
            record { c = waits.c; known = alike j ∙ waits.known; due = waits.due; phase = waits.phase };
        once = sound.queued.once;
        whole = λ j waits.
            sound.queued.whole j
            (record { c = waits.c; known = sym (alike j) ∙ waits.known; due = waits.due; phase = waits.phase });
      })
  sound_left id c left known (is_more piece n is fits) =
      let now : Connection = record c { phase = sent_more c.phase n } in
      sound_idle id now (still_waits id c known (λ due waits. piece_waits c.phase piece due is waits))
      (more_idle c.phase piece n id is) (further_sound service s.stored c piece n c.phase is fits (sound.sound id c known))

-- ---- A turn

pub sound_each : (service : Service) (s new : State) (ids : List ℕ) (acts : List Act) → IsSound service s → ServesEach s ids acts new →
    IsSound service new
sound_each service s new ids acts sound none_served = sound
sound_each service s new ids acts sound (more_served {ids = first} {id} {acts = before} {own} {between} {c} {left} each known serves) =
    sound_left service between (sound_each service s between first before sound each) id c left known (left_serves id c own left serves)

-- ---- What is told of a sound state

-- each frame is allowed for its own connection
pub are_allowed : (service : Service) (s : State) → IsSound service s → AreAllowed service s
are_allowed service s sound = λ id c frame sent known is. subst (IsSoundIn service s.stored c) is (sound.sound id c known)

-- a hall without connections is sound
pub sound_empty : (service : Service) (given : List Stored) → IsSound service (empty_hall given)
sound_empty service given = record {
  sound = λ id c known. (let clash : None ≡ Some c = known in absurd (cc));
  queued = record {
    waits = λ id among. absurd among;
    once = tt;
    whole = λ id waits. (let clash : None ≡ Some waits.c = waits.known in absurd (cc));
  };
}
