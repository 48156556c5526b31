-- What a turn leaves of a session that waits, and of how many wait before it.
use Rattle.std.proofs.Common.{◌≡◌, ◌≢◌, ◌⊎◌, ℕ, suc, List, [], Option, Some, None, inl, inr, refl, sym, ◌∙◌, ap, subst}
use Rattle.std.proofs.lemmas.Bool.{cases_eq}
use Rattle.edge_io.specs.Acts.{Act}
use Rattle.edge_io.specs.declared.event.Event.TheVariants as event
use Rattle.edge_io.specs.declared.event.Event.{Event}
use Rattle.hall.proofs.ChangeLemmas.{changes_gone, changes_now, changes_put}
use Rattle.hall.proofs.PlaceLemmas.{IsAmongFirst, first_more, first_without}
use Rattle.hall.proofs.SoundInLemmas.{piece_waits}
use Rattle.hall.specs.Sends as sending
use Rattle.hall.specs.Sends.{Closes, IsDone, Sends, Serves, ServesEach}
use Rattle.hall.specs.State.{Connection, Phase, Reading, Waits, Answered, Silent, Service, State, changed, freed, left_as, put, waits_as, with_frame}
use Rattle.hall.specs.Steps as steps
use Rattle.hall.specs.Steps.{GoesOn, Hears, Loses, Opens, Step, Works, memory_frame, session, turned_away, with_bytes, with_end}
use Rattle.hall.specs.Sends.ServesEach.{none as none_served, more as more_served}
use Rattle.session_answers.specs.Stored.{Stored}

-- a session is as it was, and no more wait before it
pub record IsStill (s new : State) (id : ℕ) (c : Connection) : Type 0 where
  pub known : new.known id ≡ Some c
  pub first : (n : ℕ) → IsAmongFirst id n s.waiting → IsAmongFirst id n new.waiting

-- a turn of work gives a session a frame; or it had its turn, and waits on; or one waits less before it
pub data HasWorked (id : ℕ) (c : Connection) (due : ℕ) (s new : State) : Type 0 where
  framed : {frame : List ℕ} → new.known id ≡ Some (with_frame c frame) → HasWorked id c due s new
  waits_on : {next : ℕ} → due ≡ suc next → new.known id ≡ Some (record c { phase = Waits next }) → HasWorked id c due s new
  nearer :
      new.known id ≡ Some c → ((n : ℕ) → IsAmongFirst id (suc n) s.waiting → IsAmongFirst id n new.waiting) →
      HasWorked id c due s new

-- who is done doesn't wait
done_waits : (p : Phase) (due : ℕ) → IsDone p → p ≡ Waits due → ⊥
done_waits Reading due done waits = done
done_waits (Waits n) due done waits = done
done_waits (Answered frame sent) due done waits = cc
done_waits Silent due done waits = cc

module _ (id : ℕ) (c : Connection) (due : ℕ) (waits : c.phase ≡ Waits due) where
  -- ---- An event

  still_same : (s : State) → s.known id ≡ Some c → IsStill s s id c
  still_same s known = record { known = known; first = λ n is. is }

  -- another one is put, and waits where it did
  still_put : (s : State) (j : ℕ) (x : Option Connection) → id ≢ j → s.known id ≡ Some c → IsStill s (put s j x) id c
  still_put s j x ne known = record { known = (changes_put s j x).others id ne ∙ known; first = λ n is. is }

  still_gone : (s : State) (j : ℕ) → id ≢ j → s.known id ≡ Some c → IsStill s (freed s j) id c
  still_gone s j ne known = record {
    known = (changes_gone s j).others id ne ∙ known;
    first = λ n is. first_without j id n s.waiting ne is;
  }

  another : (s : State) (j : ℕ) → s.known id ≡ Some c → s.known j ≡ None → id ≢ j
  another s j known none same = let clash : Some c ≡ None = sym known ∙ ap s.known same ∙ none in cc

  still_opens : (s : State) (j : ℕ) (new : State) (shut : Option ℕ) → s.known id ≡ Some c → Opens s j new shut → IsStill s new id c
  still_opens s j new shut known (steps.again there) = still_same s known
  still_opens s j new shut known (steps.held none room) = still_put s j (Some session) (another s j known none) known
  still_opens s j new shut known (steps.away none many room) = still_put s j (Some turned_away) (another s j known none) known
  still_opens s j new shut known (steps.full none many turned) = still_same s known

  still_hears : (service : Service) (s : State) (j : ℕ) (heard : Connection → Connection) (new : State) → s.known id ≡ Some c →
      Hears service s j heard new → IsStill s new id c
  still_hears service s j heard new known (steps.ignored unread) = still_same s known
  still_hears service s j heard new known (steps.kept {c = d} {now} {added} there reads takes) =
      let ne : id ≢ j =
      λ e.
      let one : Some c ≡ Some d = sym known ∙ ap s.known e ∙ there in
      let same : c ≡ d = cc in
      let clash : Reading ≡ Waits due = sym reads ∙ ap (λ (x : Connection). x.phase) (sym same) ∙ waits in
      cc in
      record {
        known = (changes_now s s.waiting j now added).others id ne ∙ known;
        first = λ n is. first_more id n s.waiting (waits_as now.phase j) is;
      }

  -- it is lost, or is still there
  still_loses : (s : State) (j : ℕ) (new : State) → s.known id ≡ Some c → Loses s j new → (j ≡ id) ⊎ IsStill s new id c
  still_loses s j new known (steps.stranger none) = inr (still_same s known)
  still_loses s j new known (steps.gone there) =
      elim (cases_eq id j) [ inl same ↦ inl (sym same) | inr other ↦ inr (still_gone s j other known) ]

  pub still_step : (service : Service) (s new : State) (e : Event) (bytes : List ℕ) (shut : Option ℕ) → s.known id ≡ Some c →
      Step service s e bytes new shut → (e ≡ event.Lost id) ⊎ IsStill s new id c
  still_step service s new (event.Opened j) bytes shut known step = inr (still_opens s j new shut known step)
  still_step service s new (event.Bytes j n) bytes shut known step = inr (still_hears service s j (with_bytes bytes) new known step.0)
  still_step service s new (event.Ended j) bytes shut known step = inr (still_hears service s j with_end new known step.0)
  still_step service s new (event.Lost j) bytes shut known step =
      elim (still_loses s j new known step.0) [
        | inl same ↦ inl (ap (λ (i : ℕ). event.Lost i) same)
        | inr still ↦ inr still
      ]
  still_step service s new event.Quiet bytes shut known step =
      inr (subst (λ (x : State). IsStill s x id c) (sym step.0) (still_same s known))
  still_step service s new event.Over bytes shut known step =
      inr (subst (λ (x : State). IsStill s x id c) (sym step.0) (still_same s known))

  -- ---- Serving

  -- it has nothing to send, and stays
  serves_waits : (acts : List Act) (left : Option Connection) → Serves id c acts left → left ≡ Some c
  serves_waits acts left serves =
      closes_waits serves.between serves.closes left (sends_waits serves.sends serves.between serves.sent) serves.closed
    where
      sends_waits : (sends : List Act) (between : Option Connection) → Sends id c sends between → between ≡ Some c
      sends_waits sends between (sending.nothing none) = refl
      sends_waits sends between (sending.taken piece n is fits) = absurd (piece_waits c.phase piece due is waits)
      sends_waits sends between (sending.broken piece is) = absurd (piece_waits c.phase piece due is waits)

      closes_waits : (between : Option Connection) (closes : List Act) (left : Option Connection) → between ≡ Some c →
          Closes id between closes left → left ≡ Some c
      closes_waits between closes left is sending.gone = is
      closes_waits between closes left is (sending.stays open_still) = is
      closes_waits between closes left is (sending.done {c = d} done) =
          let same : d ≡ c = cc in
          absurd (done_waits d.phase due done (ap (λ (x : Connection). x.phase) same ∙ waits))

  still_left : (s : State) (j : ℕ) (d : Connection) (own : List Act) (left : Option Connection) → s.known id ≡ Some c →
      s.known j ≡ Some d → Serves j d own left → IsStill s (left_as s j left) id c
  still_left s j d own left known there serves =
      elim (cases_eq id j) [
        | inl same ↦
            (let one : Some d ≡ Some c = sym there ∙ ap s.known (sym same) ∙ known in
            let alike : d ≡ c = cc in
            let here : Serves j c own left = subst (λ (x : Connection). Serves j x own left) alike serves in
            let mine : Serves id c own left = subst (λ (i : ℕ). Serves i c own left) (sym same) here in
            let stays = serves_waits own left mine in
            subst (λ (l : Option Connection). IsStill s (left_as s j l) id c) (sym stays)
            (record { known = ap (put s j (Some c)).known same ∙ (changes_put s j (Some c)).here; first = λ n is. is }))
        | inr other ↦ apart left other
      ]
    where
      apart : (l : Option Connection) → id ≢ j → IsStill s (left_as s j l) id c
      apart None ne = still_gone s j ne known
      apart (Some now) ne = still_put s j (Some now) ne known

  pub still_each : (s new : State) (ids : List ℕ) (acts : List Act) → s.known id ≡ Some c → ServesEach s ids acts new → IsStill s new id c
  still_each s new ids acts known none_served = still_same s known
  still_each s new ids acts known (more_served {ids = front} {id = j} {acts = before} {own} {between} {c = d} {left} each there serves) =
      let earlier = still_each s between front before known each in
      let later = still_left between j d own left earlier.known there serves in
      record { known = later.known; first = λ n is. later.first n (earlier.first n is) }

  -- ---- Work

  goes_worked : (service : Service) (stored : List Stored) (s new : State) (now : Connection) → new.known id ≡ Some now →
      GoesOn service stored c now → HasWorked id c due s new
  goes_worked service stored s new now known (steps.more {due = next} phase) =
      let one : Waits due ≡ Waits (suc next) = sym waits ∙ phase in
      let same : due ≡ suc next = cc in
      waits_on same known
  goes_worked service stored s new now known (steps.answers {frame} phase asked within answers) = framed {frame = frame} known
  goes_worked service stored s new now known (steps.gives_up phase) = framed {frame = memory_frame} known

  pub has_worked : (service : Service) (s new : State) (n : ℕ) → s.known id ≡ Some c → IsAmongFirst id (suc n) s.waiting →
      Works service s new → HasWorked id c due s new
  has_worked service s new n known first (steps.idle none) = absurd (subst (λ (ids : List ℕ). IsAmongFirst id (suc n) ids) none first)
  has_worked service s new n known first (steps.turn {id = j} {rest} {c = d} {now} is there goes) =
      let changes = changes_now s rest j now [] in
      elim (cases_eq id j) [
        | inl same ↦
            (let one : Some d ≡ Some c = sym there ∙ ap s.known (sym same) ∙ known in
            let alike : d ≡ c = cc in
            goes_worked service s.stored s (changed (record s { waiting = rest }) j now []) now
            (ap (changed (record s { waiting = rest }) j now []).known same ∙ changes.here)
            (subst (λ (x : Connection). GoesOn service s.stored x now) alike goes))
        | inr other ↦
            nearer (changes.others id other ∙ known)
            (λ m among. first_more id m rest (waits_as now.phase j)
            (elim (subst (λ (ids : List ℕ). IsAmongFirst id (suc m) ids) is among) [
              | inl here ↦ absurd (other (sym here))
              | inr later ↦ later
            ]))
      ]
