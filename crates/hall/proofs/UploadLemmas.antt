-- What is stored in a run: the induction over its turns.
use Rattle.std.proofs.Common.{◌≡◌, ◌≢◌, ℕ, Bool, true, List, [], ◌∷◌, ◌++◌, Option, Some, refl, sym, ◌∙◌, ap, subst, append-nil, append_assoc, eq-eqb, eqb-true}
use Rattle.edge_io.specs.Acts.{Act, Gave, OpensOnce, Traffic, after_own, is_event_of, told}
use Rattle.edge_io.specs.declared.event.Event.TheVariants.{Opened, Bytes, Ended, Lost, Quiet, Over}
use Rattle.edge_io.specs.declared.event.Event.{Event}
use Rattle.edge_io.proofs.ActLemmas.{told-one}
use Rattle.hall.proofs.ChangeLemmas.{changes_now}
use Rattle.hall.proofs.FrameLemmas.{ComesTo, accepted, comes_to, no_success-early, no_success-refusal, refused, status_in, stores_with_success}
use Rattle.hall.proofs.LawLemmas.{once_before, turns_stand}
use Rattle.hall.proofs.OneLemmas.{each_stored, works_stored}
use Rattle.hall.proofs.StandLemmas.{held_at}
use Rattle.hall.proofs.Status.{AllStand, FitsPhase, IsHeldSo, IsRead}
use Rattle.hall.proofs.TakingLemmas.{IsTaking, bytes_taking, end_taking, hears_it, read_at}
use Rattle.hall.proofs.TrafficLemmas.{by_act}
use Rattle.hall.specs.State.{Answered, Connection, Reading, Service, Silent, State, Waits, changed, empty_hall, freed, put, with_frame}
use Rattle.hall.specs.Steps as steps
use Rattle.hall.specs.Steps.{Hears, Loses, Opens, Step, Takes, memory_frame, session, turned_away, uploaded, whole_in, with_bytes, with_end}
use Rattle.hall.specs.Turns.{EventOf, Meets, Turns, last_act}
use Rattle.hall.specs.Turns.Turns.{none as none_turned, more as more_turned}
use Rattle.hall.specs.Uploads.{Accepts, Adds, AreAccepted, StoresUploads, nothing, one}
use Rattle.route_http.specs.declared.span.Span.{Span}
use Rattle.session_answers.proofs.CallerLemmas.{verdict_unique}
use Rattle.session_answers.specs.Frames.{refusal_frame}
use Rattle.session_answers.specs.Searches.{turns_for}
use Rattle.session_answers.specs.Stored.{Stored, Uploaded}
use Rattle.session_answers.specs.Verdicts.{IsVerdict, part}
use Rattle.session_answers.specs.declared.refusal.Refusal.TheVariants.{OutOfMemory}
use Rattle.session_answers.specs.declared.verdict.Verdict.TheVariants.{Undecided, Upload}

-- a step accepts an upload or none, and stores that alone
pub record StepAdds (service : Service) (s next : State) (acts : List Act) (event : Event) (given : List ℕ) : Type 0 where
  pub added : List Stored
  pub adds : Adds service s next acts event given added
  pub stored : next.stored ≡ s.stored ++ added

-- no more came of a connection, and its end is as it was
abbrev CameSame : Traffic → Traffic → Type 0
CameSame t u = (u.came ≡ t.came) × (u.ended ≡ t.ended)

module _ (service : Service) (s next : State) (acts : List Act) (event : Event) (given : List ℕ) where
  -- nothing is stored
  pub stores_none : next.stored ≡ s.stored → ((profile : Stored) → Accepts service s next acts event given profile → ⊥) →
      StepAdds service s next acts event given
  stores_none same never = record { added = []; adds = nothing never; stored = same ∙ sym (append-nil s.stored) }

  -- an event that brings nothing, and is no end, accepts nothing
  brings_none : ((t : Traffic) → CameSame t (after_own t (Gave event given))) → (profile : Stored) →
      Accepts service s next acts event given profile → ⊥
  brings_none same profile a =
      let t = told a.id a.since in
      let now : CameSame t (told a.id (a.since ++ (Gave event given ∷ []))) =
      subst (CameSame t) (sym (told-one a.id a.since (Gave event given)))
      (by_act (CameSame t) a.id t (Gave event given) (same t) (refl, refl)) in
      let upload : IsVerdict t.came t.ended (Upload a.span) =
      subst (λ (e : Bool). IsVerdict t.came e (Upload a.span)) (a.hears.ended_is ∙ now.1)
      (subst (λ (xs : List ℕ). IsVerdict xs a.ended (Upload a.span)) (a.hears.bytes_are ∙ now.0) a.upload) in
      let clash : Undecided ≡ Upload a.span = verdict_unique t.came t.ended Undecided (Upload a.span) a.hears.undecided upload in
      cc

  -- so it stores nothing, where nothing is stored
  quiet_adds : ((t : Traffic) → CameSame t (after_own t (Gave event given))) → next.stored ≡ s.stored →
      StepAdds service s next acts event given
  quiet_adds same kept = stores_none kept (brings_none same)

-- ---- Bytes and ends

-- what a session comes to is the frame that tells of a stored profile, where its upload is accepted
gets_frame : (service : Service) (s : State) (id : ℕ) (acts : List Act) (event : Event) (given : List ℕ) (now : Connection)
    (added : List Stored) (profile : Stored) → (a : Accepts service s (changed s id now added) acts event given profile) → id ≡ a.id →
    (frame : List ℕ) × (now.phase ≡ Answered frame 0) × (status_in frame ≡ 200)
gets_frame service s id acts event given now added profile a same =
    let text = part a.bytes a.span in
    let known : Some now ≡ Some a.gets.now = sym (changes_now s s.waiting id now added).here
    ∙ ap (changed s id now added).known same ∙ a.gets.known in
    let one : now ≡ a.gets.now = cc in (
      (uploaded service s.stored text).frame,
      ap (λ (c : Connection). c.phase) one ∙ a.gets.answered,
      stores_with_success service s.stored text profile a.adds,
    )

module _ (service : Service) (meets : Meets) (s : State) (id : ℕ) (acts : List Act) (event : Event) (given : List ℕ)
    (own : is_event_of id event ≡ true) (mine : (j : ℕ) → is_event_of j event ≡ true → id ≡ j) (old c : Connection)
    (known : s.known id ≡ Some old) (reading : old.phase ≡ Reading) (read : IsRead meets id acts old.bytes old.ended)
    (taking : IsTaking id acts read.since (Gave event given) c) where
  -- a session that doesn't get a frame of success stores nothing
  no_success : (now : Connection) → ((frame : List ℕ) → now.phase ≡ Answered frame 0 → status_in frame ≡ 200 → ⊥) →
      StepAdds service s (changed s id now []) acts event given
  no_success now never =
      stores_none service s (changed s id now []) acts event given (append-nil s.stored)
      (λ profile a.
      let gets = gets_frame service s id acts event given now [] profile a (mine a.id a.hears.own) in
      never gets.0 gets.1 gets.2)

  -- nor does one that gets another frame
  other_frame : (d : Connection) (frame : List ℕ) → status_in frame ≢ 200 →
      StepAdds service s (changed s id (with_frame d frame) []) acts event given
  other_frame d frame other =
      no_success (with_frame d frame)
      (λ got is success. let same : frame ≡ got = cc in other (ap status_in same ∙ success))

  -- an upload stores its profile, where it is accepted
  upload_adds : (span : Span) (u : Uploaded) → u ≡ uploaded service s.stored (part c.bytes span) → IsVerdict c.bytes c.ended (Upload span) →
      ComesTo u → StepAdds service s (changed s id (with_frame (whole_in s.stored c) u.frame) u.added) acts event given
  upload_adds span u is v (refused other none) =
      subst (λ (added : List Stored). StepAdds service s (changed s id (with_frame (whole_in s.stored c) u.frame) added) acts event given)
      (sym none) (other_frame (whole_in s.stored c) u.frame other)
  upload_adds span u is v (accepted {profile} success single) =
      let now : Connection = with_frame (whole_in s.stored c) u.frame in
      record {
        added = profile ∷ [];
        adds = one (record {
          id = id;
          since = read.since;
          opens = read.opening.opens;
          bytes = c.bytes;
          ended = c.ended;
          hears = hears_it service meets s id acts event given own old c read taking;
          span = span;
          upload = v;
          adds = ap (λ (x : Uploaded). x.added) (sym is) ∙ single;
          gets = record {
            old = old;
            was_known = known;
            reading = reading;
            now = now;
            known = (changes_now s s.waiting id now u.added).here;
            answered = ap (λ (x : Uploaded). Answered x.frame 0) is;
          };
        });
        stored = ap (λ (xs : List Stored). s.stored ++ xs) single;
      }

  -- what a session comes to stores the profile of its accepted upload, or nothing
  takes_adds : (now : Connection) (added : List Stored) → Takes service s.stored old c now added →
      StepAdds service s (changed s id now added) acts event given
  takes_adds now added (steps.undecided v) =
      no_success c (λ frame is success. (let clash : Reading ≡ Answered frame 0 = sym taking.reading ∙ is in cc))
  takes_adds now added (steps.silent v) = no_success (record c { phase = Silent }) (λ frame is success. cc)
  takes_adds now added (steps.refused {r} v) = other_frame c (refusal_frame r) (no_success-refusal r)
  takes_adds now added (steps.upload {span} v) =
      let text = part c.bytes span in upload_adds span (uploaded service s.stored text) refl v (comes_to service s.stored text)
  takes_adds now added (steps.early {aim} {span} {frame} v found) =
      other_frame (whole_in s.stored c) frame (no_success-early service s.stored aim (part c.bytes span) frame found)
  takes_adds now added (steps.waits {aim} {asked} v asks) = no_success (record (whole_in s.stored c) { phase = Waits (turns_for service.world aim asked) }) (λ frame is success. cc)
  takes_adds now added (steps.gives_up {kept} why which) = other_frame kept memory_frame (no_success-refusal OutOfMemory)

module _ (service : Service) (meets : Meets) (s : State) (acts : List Act) (all : AllStand service meets s acts) where
  -- what is heard of a connection stores the profile of its accepted upload, or nothing
  hears_adds : (id : ℕ) (event : Event) (given : List ℕ) (heard : Connection → Connection) (next : State) →
      is_event_of id event ≡ true → ((j : ℕ) → is_event_of j event ≡ true → id ≡ j) →
      ((c : Connection) (at : IsHeldSo service meets s.stored id acts c) → c.phase ≡ Reading →
      (read : FitsPhase service meets s.stored id acts c Reading) → IsTaking id acts read.0.since (Gave event given) (heard c)) →
      Hears service s id heard next → StepAdds service s next acts event given
  hears_adds id event given heard next own mine taking (steps.ignored unread) =
      stores_none service s s acts event given refl
      (λ profile a.
      unread a.gets.old (ap s.known (mine a.id a.hears.own) ∙ a.gets.was_known) a.gets.reading)
  hears_adds id event given heard next own mine taking (steps.kept {c} {now} {added} known reading takes) =
      let at = held_at service meets s.stored id acts (s.known id) c known (all id) in
      let read = read_at service meets s id acts c at reading in
      takes_adds service meets s id acts event given own mine c (heard c) known reading read.0 (taking c at reading read) now added takes

  opens_adds : (id : ℕ) (given : List ℕ) (next : State) (at_once : Option ℕ) → Opens s id next at_once →
      StepAdds service s next acts (Opened id) given
  opens_adds id given next at_once (steps.again known) = quiet_adds service s s acts (Opened id) given (λ t. (refl, refl)) refl
  opens_adds id given next at_once (steps.held none room) =
      quiet_adds service s (put s id (Some session)) acts (Opened id) given (λ t. (refl, refl)) refl
  opens_adds id given next at_once (steps.away none many room) =
      quiet_adds service s (put s id (Some turned_away)) acts (Opened id) given (λ t. (refl, refl)) refl
  opens_adds id given next at_once (steps.full none many turned) = quiet_adds service s s acts (Opened id) given (λ t. (refl, refl)) refl

  loses_adds : (id : ℕ) (given : List ℕ) (next : State) → Loses s id next → StepAdds service s next acts (Lost id) given
  loses_adds id given next (steps.stranger none) = quiet_adds service s s acts (Lost id) given (λ t. (refl, refl)) refl
  loses_adds id given next (steps.gone known) = quiet_adds service s (freed s id) acts (Lost id) given (λ t. (refl, refl)) refl

  -- a step stores the profile of an accepted upload, or nothing
  pub step_adds : (event : Event) (given : List ℕ) (next : State) (at_once : Option ℕ) → Step service s event given next at_once →
      StepAdds service s next acts event given
  step_adds (Opened id) given next at_once step = opens_adds id given next at_once step
  step_adds (Bytes id n) given next at_once step =
      hears_adds id (Bytes id n) given (with_bytes given) next (eq-eqb id id refl) (λ j is. eqb-true id j is)
      (λ c at reading read. bytes_taking service meets s id acts c at reading read n given) step.0
  step_adds (Ended id) given next at_once step =
      hears_adds id (Ended id) given with_end next (eq-eqb id id refl) (λ j is. eqb-true id j is)
      (λ c at reading read. end_taking service meets s id acts c at reading read given) step.0
  step_adds (Lost id) given next at_once step = loses_adds id given next step.0
  step_adds Quiet given next at_once step =
      quiet_adds service s next acts Quiet given (λ t. (refl, refl)) (ap (λ (x : State). x.stored) step.0)
  step_adds Over given next at_once step =
      quiet_adds service s next acts Over given (λ t. (refl, refl)) (ap (λ (x : State). x.stored) step.0)

-- ---- A run

-- what is stored after turns from a hall without connections
record AreStoredBy (service : Service) (given : List Stored) (s : State) (n : ℕ) (acts : List Act)
    (turns : Turns service (empty_hall given) n acts s) : Type 0 where
  profiles : List Stored
  accepted : AreAccepted turns profiles
  stored : s.stored ≡ given ++ profiles

turns_store : (service : Service) (given : List Stored) (s : State) (n : ℕ) (acts : List Act)
    (turns : Turns service (empty_hall given) n acts s) → OpensOnce acts → AreStoredBy service given s n acts turns
turns_store service given s n acts none_turned once = record { profiles = []; accepted = refl; stored = sym (append-nil given) }
turns_store service given s n acts (more_turned {n = before} {acts = first} {own} {between} {event} {bytes} turns turn) once =
    let earlier_once = once_before first own once in
    let all = turns_stand service (EventOf turns) given between before first turns
    (λ so_far state event given stepped is. is) earlier_once in
    let step = step_adds service (EventOf turns) between first all event bytes turn.stepped turn.at_once turn.step in
    let kept : s.stored ≡ turn.stepped.stored = each_stored turn.worked s turn.order turn.served turn.serves
    ∙ works_stored service turn.stepped turn.worked turn.work in
    let earlier = turns_store service given between before first turns earlier_once in
    record {
      profiles = earlier.profiles ++ step.added;
      accepted = (earlier.profiles, step.added, earlier.accepted, step.adds, refl);
      stored = kept ∙ step.stored ∙ ap (λ (xs : List Stored). xs ++ step.added) earlier.stored
          ∙ append_assoc given earlier.profiles step.added;
    }

-- of uploads those alone are stored that are accepted
pub stores_uploads : (service : Service) → StoresUploads service
stores_uploads service given n over acts s run once =
    let stored = turns_store service given s n run.turned run.turns
    (once_before run.turned (last_act over) (subst OpensOnce run.acts_are once)) in
    record { profiles = stored.profiles; accepted = stored.accepted; stored = stored.stored }
