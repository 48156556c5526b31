-- Each search that waits comes to its end: the induction over the turns of a run.
use Rattle.std.proofs.Common.{◌≡◌, ◌⊎◌, ◌+◌, ◌*◌, ◌≤◌, ℕ, zero, suc, false, List, Some, None, inl, inr, refl, sym, ◌∙◌, ap, arith}
use Rattle.edge_io.specs.Acts.{Act}
use Rattle.edge_io.specs.declared.event.Event.{Event}
use Rattle.hall.proofs.AskingLemmas.{AreAsking, asking_each, asking_step, asking_works}
use Rattle.hall.proofs.FewLemmas.{few_each, few_empty, few_step, few_wait, few_works}
use Rattle.hall.proofs.PlaceLemmas.{IsAmongFirst, first_all}
use Rattle.hall.proofs.SoundLemmas.{sound_each, sound_empty, sound_step, sound_works}
use Rattle.hall.proofs.StillLemmas.{HasWorked, framed, has_worked, nearer, still_each, still_step, waits_on}
use Rattle.hall.specs.Held.{AreFew, most_sessions}
use Rattle.hall.specs.Parts.{waiting_for}
use Rattle.hall.specs.Sound.{IsSound}
use Rattle.hall.specs.State.{Connection, Service, State, empty_hall, with_frame}
use Rattle.hall.specs.Turns.Turns.{none, more}
use Rattle.hall.specs.Turns.{Turn, Turns}
use Rattle.hall.specs.Waiting.{AllEndInTime, EndsAmong, EndsEachWait, EndsWait, lost, answered, most_turns}
use Rattle.session_answers.specs.Stored.{Stored}

-- ---- A turn

-- a state is sound, no more sessions are held than may be, and each that waits asks for something
pub record IsWell (service : Service) (s : State) : Type 0 where
  pub sound : IsSound service s
  pub few : AreFew s false
  pub asking : AreAsking service s

module _ (service : Service) (s new : State) (event : Event) (bytes : List ℕ) (acts : List Act) (turn :
    Turn service s event bytes acts new) where
  -- so it is after a step, after work, and after the turn
  well_stepped : IsWell service s → IsWell service turn.stepped
  well_stepped well = record {
    sound = sound_step service s well.sound event bytes turn.stepped turn.at_once turn.step;
    few = few_step service s turn.stepped event bytes turn.at_once well.few turn.step;
    asking = asking_step service s turn.stepped event bytes turn.at_once well.asking turn.step;
  }

  well_worked : IsWell service turn.stepped → IsWell service turn.worked
  well_worked well = record {
    sound = sound_works service turn.stepped well.sound turn.worked turn.work;
    few = few_works service turn.stepped turn.worked well.few turn.work;
    asking = asking_works service turn.stepped turn.worked well.asking turn.work;
  }

  well_served : IsWell service turn.worked → IsWell service new
  well_served well = record {
    sound = sound_each service turn.worked new turn.order turn.served well.sound turn.serves;
    few = few_each turn.worked new turn.order turn.served well.few turn.serves;
    asking = asking_each service turn.worked new turn.order turn.served well.asking turn.serves;
  }

  pub well_turned : IsWell service s → IsWell service new
  well_turned well = well_served (well_worked (well_stepped well))

-- a session waits, for which so many turns are left at most: those that others have before its next one, and as many for each
-- further turn of its own
record IsInTime (s : State) (id : ℕ) (c : Connection) (left : ℕ) : Type 0 where
  due : ℕ
  known : s.known id ≡ Some (waiting_for c due)
  place : ℕ
  first : IsAmongFirst id place s.waiting
  left_is : place + most_sessions * due ≤ left

module _ (service : Service) (id : ℕ) (c : Connection) where
  -- a frame is given to it; or it waits with so many turns left
  abbrev Goes : State → ℕ → Type 0
  Goes worked left = ((frame : List ℕ) × (worked.known id ≡ Some (with_frame c frame))) ⊎ IsInTime worked id c left

  -- so it is after a turn of work
  goes_worked : (s worked : State) (now place left : ℕ) → IsWell service worked → IsAmongFirst id (suc place) s.waiting →
      suc place + most_sessions * now ≤ suc left → HasWorked id (waiting_for c now) now s worked → Goes worked left
  goes_worked s worked now place left well first left_is (framed {frame} known) = inl (frame, known)
  goes_worked s worked now place left well first left_is (waits_on {next} is known) =
      inr (record {
        due = next;
        known = known;
        place = most_sessions;
        first = first_all id most_sessions worked.waiting
            (well.sound.queued.whole id (record { c = waiting_for c next; known = known; due = next; phase = refl }))
            (few_wait service worked well.sound well.few);
        left_is = omega (arith, left_is, is);
      })
  goes_worked s worked now place left well first left_is (nearer known closer) =
      inr (record { due = now; known = known; place = place; first = closer place first; left_is = omega (arith, left_is) })

  -- a turn ends its wait, or leaves it with a turn less
  abbrev Comes : State → Event → State → ℕ → Type 0
  Comes new event worked left =
      EndsWait id c event worked ⊎ ((rest : ℕ) × (left ≡ suc rest) × IsInTime new id c rest)

  module _ (s new : State) (event : Event) (bytes : List ℕ) (acts : List Act) (turn : Turn service s event bytes acts new) (well :
      IsWell service s) where
    -- work and serving, by how many wait before it
    comes_by : (now place left : ℕ) → turn.stepped.known id ≡ Some (waiting_for c now) → IsAmongFirst id place turn.stepped.waiting →
        place + most_sessions * now ≤ left → Comes new event turn.worked left
    comes_by now zero left known first left_is = absurd first
    comes_by now (suc place) zero known first left_is = absurd (omega (arith, left_is))
    comes_by now (suc place) (suc left) known first left_is =
        let worked = well_worked service s new event bytes acts turn (well_stepped service s new event bytes acts turn well) in
        elim (goes_worked turn.stepped turn.worked now place left worked first left_is
        (has_worked id (waiting_for c now) now refl service turn.stepped turn.worked place known first turn.work)) [
          | inl framed_now ↦ inl (answered framed_now.1)
          | inr waits ↦
              (let still = still_each id (waiting_for c waits.due) waits.due refl turn.worked new turn.order turn.served waits.known
              turn.serves in
              inr (
                left,
                refl,
                record {
                  due = waits.due;
                  known = still.known;
                  place = waits.place;
                  first = still.first waits.place waits.first;
                  left_is = waits.left_is;
                },
              ))
        ]

    comes : (left : ℕ) → IsInTime s id c left → Comes new event turn.worked left
    comes left waits =
        elim (still_step id (waiting_for c waits.due) waits.due refl service s turn.stepped event bytes turn.at_once waits.known
        turn.step) [
          | inl lost_now ↦ inl (lost lost_now)
          | inr still ↦
              comes_by waits.due waits.place left still.known (still.first waits.place waits.first) waits.left_is
        ]

  -- ---- Turns

  -- turns end its wait, or leave it with so many turns less, in a state that is well
  record IsLeftOver (new : State) (m left : ℕ) : Type 0 where
    rest : ℕ
    left_is : left ≡ rest + m
    waits : IsInTime new id c rest
    well : IsWell service new

  comes_among : (s new : State) (m left : ℕ) (acts : List Act) (turns : Turns service s m acts new) → IsWell service s →
      IsInTime s id c left → EndsAmong service s id c m acts new turns ⊎ IsLeftOver new m left
  comes_among s new m left acts none well waits = inr (record { rest = left; left_is = omega arith; waits = waits; well = well })
  comes_among s new m left acts (more {n = before} {acts = first} {own} {between} {event} {bytes} turns turn) well waits =
      elim (comes_among s between before left first turns well waits) [
        | inl earlier ↦ inl (inl earlier)
        | inr over ↦
            elim (comes between new event bytes own turn over.well over.rest over.waits) [
              | inl ends ↦ inl (inr ends)
              | inr goes ↦
                  inr (record {
                    rest = goes.0;
                    left_is = omega (arith, over.left_is, goes.1);
                    waits = goes.2;
                    well = well_turned service between new event bytes own turn over.well;
                  })
            ]
      ]

  -- nobody waits with no turn left
  some_left : (s : State) (place : ℕ) → IsAmongFirst id place s.waiting → 1 ≤ place
  some_left s zero first = absurd first
  some_left s (suc place) first = omega arith

  ends_among : (s new : State) (m left : ℕ) (acts : List Act) (turns : Turns service s m acts new) → IsWell service s →
      IsInTime s id c left → left ≤ m → EndsAmong service s id c m acts new turns
  ends_among s new m left acts turns well waits within =
      elim (comes_among s new m left acts turns well waits) [
        | inl ends ↦ ends
        | inr over ↦
            absurd (omega (arith, over.left_is, over.waits.left_is, within, some_left new over.waits.place over.waits.first))
      ]

-- ---- A run

well_empty : (service : Service) (given : List Stored) → IsWell service (empty_hall given)
well_empty service given = record {
  sound = sound_empty service given;
  few = few_empty given;
  asking = λ id c due known waits. (let clash : None ≡ Some c = known in absurd (cc));
}

-- so a state is after any turns
pub turns_well : (service : Service) (s new : State) (n : ℕ) (acts : List Act) → Turns service s n acts new → IsWell service s →
    IsWell service new
turns_well service s new n acts none well = well
turns_well service s new n acts (more {n = before} {acts = first} {own} {between} {event} {bytes} turns turn) well =
    well_turned service between new event bytes own turn (turns_well service s between before first turns well)

-- a session that waits in such a state is answered or lost in time
ends_in_time : (service : Service) (s : State) → IsWell service s → AllEndInTime service s
ends_in_time service s well id due c known phase =
    let own = well.asking id c due known phase in
    let is : waiting_for c due ≡ c = λ i. record c { phase = sym phase i } in
    let asks = own.2 in
    let waits : IsInTime s id c (most_turns service own.0 own.1) =
    record {
      due = due;
      known = known ∙ ap (λ (d : Connection). Some d) (sym is);
      place = most_sessions;
      first = first_all id most_sessions s.waiting
          (well.sound.queued.whole id (record { c = c; known = known; due = due; phase = phase }))
          (few_wait service s well.sound well.few);
      left_is = omega (arith, own.3);
    } in
    record {
      aim = own.0;
      asked = own.1;
      asks = asks;
      ends = λ m acts new turns within.
          ends_among service id c s new m (most_turns service own.0 own.1) acts turns well waits within;
    }

-- each search comes to its end
pub ends_each_wait : (service : Service) → EndsEachWait service
ends_each_wait service given n acts s turns =
    ends_in_time service s (turns_well service (empty_hall given) s n acts turns (well_empty service given))
