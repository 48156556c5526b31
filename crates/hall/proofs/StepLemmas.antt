-- How all connections stand after an event.
use Rattle.std.proofs.Common.{◌≡◌, ◌≢◌, ◌==◌, ℕ, true, false, List, [], ◌∷◌, ◌++◌, Option, Some, None, refl, sym, ◌∙◌, ap, subst, append-nil}
use Rattle.std.proofs.lemmas.Bool.{eq-eqb, ne_eqb}
use Rattle.edge_io.specs.Acts.{Act, Gave, Traffic, is_act_on, is_event_of, told}
use Rattle.edge_io.specs.declared.event.Event.TheVariants.{Opened, Bytes, Ended, Lost, Quiet, Over}
use Rattle.edge_io.specs.declared.event.Event.{Event}
use Rattle.hall.proofs.CauseLemmas.{GetsOwn-more}
use Rattle.hall.proofs.ChangeLemmas.{changes_gone, changes_now}
use Rattle.hall.proofs.OpenStandLemmas.{opening_stands}
use Rattle.hall.proofs.StandLemmas.{AllStand-by, AllStand-quiet, AllStand-same, GetsOwn-held, held_at, held_more}
use Rattle.hall.proofs.Status.{AllStand, FitsPhase, IsHeldSo, IsRead, Stands, unheard, held, gone}
use Rattle.hall.proofs.TakingLemmas.{IsTaking, bytes_taking, end_taking, read_at, takes_fit}
use Rattle.hall.proofs.TrafficLemmas.{AreApart, AreApart-one, SendsNone-event, opened-more, told-own}
use Rattle.hall.specs.State.{Connection, Reading, Service, State, changed, freed}
use Rattle.hall.specs.Steps as steps
use Rattle.hall.specs.Steps.{Hears, Loses, Step, Takes, with_bytes, with_end}
use Rattle.hall.specs.Turns.{Meets, shut}
use Rattle.session_answers.specs.Stored.{Stored}

-- ---- An event of one connection

-- an event of another connection
event_apart : (id j : ℕ) (event : Event) (bytes : List ℕ) → is_act_on j (Gave event bytes) ≡ (id == j) → j ≢ id →
    AreApart j (Gave event bytes ∷ [])
event_apart id j event bytes is ne = AreApart-one j (Gave event bytes) (is ∙ ne_eqb id j (λ e. ne (sym e)))

module _ (service : Service) (meets : Meets) (s : State) (id : ℕ) (acts : List Act) (event : Event) (given : List ℕ)
    (all : AllStand service meets s acts) (apart : (j : ℕ) → j ≢ id → AreApart j (Gave event given ∷ [])) where
  -- the acts with the event
  abbrev more : List Act
  more = acts ++ (Gave event given ∷ [])

  -- an event that changes nothing of what is known, and opens nothing, leaves it as it stands
  ignored_stands : ((c : Connection) → s.known id ≡ Some c → c.phase ≢ Reading) → (told id more).opened ≡ (told id acts).opened →
      AllStand service meets s more
  ignored_stands unread same =
      AllStand-same service meets s id acts (Gave event given ∷ []) apart all (by_status (s.known id) refl (all id))
    where
      by_status : (x : Option Connection) → s.known id ≡ x → Stands service meets s.stored id acts x →
          Stands service meets s.stored id more x
      by_status x is (unheard fresh) =
          let sends = SendsNone-event id acts event given in
          unheard (record { unopened = same ∙ fresh.unopened; none = sends.sent ∙ fresh.none; unclosed = sends.closed ∙ fresh.unclosed })
      by_status x is (held {c} at) =
          subst (λ (l : List Stored). Stands service meets l id more (Some c)) (append-nil s.stored)
          (held (held_more service meets s.stored [] id acts (Gave event given ∷ []) c (SendsNone-event id acts event given)
          (λ reading. absurd (unread c is reading)) at))
      by_status x is (gone opened gets) =
          gone (same ∙ opened) (GetsOwn-more meets id acts (Gave event given ∷ []) service (SendsNone-event id acts event given) gets)

  -- where it is lost, what it got is its own
  lost_stands : (c : Connection) → s.known id ≡ Some c → AllStand service meets (freed s id) more
  lost_stands c known =
      let at = held_at service meets s.stored id acts (s.known id) c known (all id) in
      AllStand-by service meets s (freed s id) id None [] acts (Gave event given ∷ []) (changes_gone s id) apart all
      (gone (opened-more id acts (Gave event given ∷ []) at.opened)
      (GetsOwn-more meets id acts (Gave event given ∷ []) service (SendsNone-event id acts event given)
      (GetsOwn-held service meets s.stored id acts c at)))

  -- where it takes what came, what is known of it fits
  taken_stands : is_event_of id event ≡ true → (old c now : Connection) (added : List Stored) →
      meets acts s event given (changed s id now added) →
      IsHeldSo service meets s.stored id acts old → (read : IsRead meets id acts old.bytes old.ended) →
      IsTaking id acts read.since (Gave event given) c → Takes service s.stored old c now added →
      AllStand service meets (changed s id now added) more
  taken_stands own old c now added met at read taking takes =
      AllStand-by service meets s (changed s id now added) id (Some now) added acts (Gave event given ∷ [])
      (changes_now s s.waiting id now added) apart all
      (held (record {
        opened = opened-more id acts (Gave event given ∷ []) at.opened;
        unclosed = taking.unclosed;
        by_phase = takes_fit service meets s id acts event given own old c read taking now added met takes;
      }))

-- ---- Bytes, ends and losses

module _ (service : Service) (meets : Meets) (s : State) (id : ℕ) (acts : List Act) (all :
    AllStand service meets s acts) where
  -- something is heard of a connection: it is ignored, or the facts of one that takes it are these
  hears_stand : (event : Event) (given : List ℕ) (heard : Connection → Connection) (next : State) → meets acts s event given next →
      ((j : ℕ) → is_act_on j (Gave event given) ≡ (id == j)) → is_event_of id event ≡ true →
      (told id (acts ++ (Gave event given ∷ []))).opened ≡ (told id acts).opened →
      ((c : Connection) (at : IsHeldSo service meets s.stored id acts c) → c.phase ≡ Reading →
      (read : FitsPhase service meets s.stored id acts c Reading) → IsTaking id acts read.0.since (Gave event given) (heard c)) →
      Hears service s id heard next → AllStand service meets next (acts ++ (Gave event given ∷ []))
  hears_stand event given heard next met is own same taking (steps.ignored unread) =
      ignored_stands service meets s id acts event given all (λ j ne. event_apart id j event given (is j) ne) unread same
  hears_stand event given heard next met is own same taking (steps.kept {c} {now} {added} known reading takes) =
      let at = held_at service meets s.stored id acts (s.known id) c known (all id) in
      let read = read_at service meets s id acts c at reading in
      taken_stands service meets s id acts event given all (λ j ne. event_apart id j event given (is j) ne) own c (heard c) now added met at
      read.0 (taking c at reading read) takes

  -- bytes come
  bytes_stand : (n : ℕ) (bytes : List ℕ) (next : State) → meets acts s (Bytes id n) bytes next →
      Hears service s id (with_bytes bytes) next →
      AllStand service meets next (acts ++ (Gave (Bytes id n) bytes ∷ []))
  bytes_stand n bytes next met hears =
      hears_stand (Bytes id n) bytes (with_bytes bytes) next met (λ j. refl) (eq-eqb id id refl)
      (ap (λ (v : Traffic). v.opened) (told-own id acts (Gave (Bytes id n) bytes) (eq-eqb id id refl)))
      (λ c at reading read. bytes_taking service meets s id acts c at reading read n bytes) hears

  -- a peer ends
  end_stands : (bytes : List ℕ) (next : State) → meets acts s (Ended id) bytes next → Hears service s id with_end next →
      AllStand service meets next (acts ++ (Gave (Ended id) bytes ∷ []))
  end_stands bytes next met hears =
      hears_stand (Ended id) bytes with_end next met (λ j. refl) (eq-eqb id id refl)
      (ap (λ (v : Traffic). v.opened) (told-own id acts (Gave (Ended id) bytes) (eq-eqb id id refl)))
      (λ c at reading read. end_taking service meets s id acts c at reading read bytes) hears

-- a connection is lost
loss_stands : (service : Service) (meets : Meets) (s : State) (id : ℕ) (acts : List Act) (bytes : List ℕ) →
    AllStand service meets s acts → (next : State) → Loses s id next → AllStand service meets next (acts ++ (Gave (Lost id) bytes ∷ []))
loss_stands service meets s id acts bytes all next (steps.stranger none) =
    ignored_stands service meets s id acts (Lost id) bytes all (λ j ne. event_apart id j (Lost id) bytes refl ne)
    (λ c known reading. (let clash : None ≡ Some c = sym none ∙ known in cc))
    (ap (λ (t : Traffic). t.opened) (told-own id acts (Gave (Lost id) bytes) (eq-eqb id id refl)))
loss_stands service meets s id acts bytes all next (steps.gone {c} known) =
    lost_stands service meets s id acts (Lost id) bytes all (λ j ne. event_apart id j (Lost id) bytes refl ne) c known

-- ---- A step

-- where no connection is closed at once
without_shut : (service : Service) (meets : Meets) (s : State) (acts : List Act) (event : Event) (bytes : List ℕ)
    (at_once : Option ℕ) → at_once ≡ None → AllStand service meets s (acts ++ (Gave event bytes ∷ [])) →
    AllStand service meets s (acts ++ (Gave event bytes ∷ shut at_once))
without_shut service meets s acts event bytes at_once is all =
    subst (λ (o : Option ℕ). AllStand service meets s (acts ++ (Gave event bytes ∷ shut o))) (sym is) all

-- nothing that an event opens was opened before
abbrev pub OpensAnew : List Act → Event → Type 0
OpensAnew acts event = (id : ℕ) → event ≡ Opened id → (told id acts).opened ≡ false

-- all stand after a step
module _ (service : Service) (meets : Meets) (s next : State) (acts : List Act)
    (all : AllStand service meets s acts) where
  pub step_stands : (event : Event) (bytes : List ℕ) (at_once : Option ℕ) → meets acts s event bytes next → OpensAnew acts event →
      Step service s event bytes next at_once → AllStand service meets next (acts ++ (Gave event bytes ∷ shut at_once))
  step_stands (Opened id) bytes at_once met anew step =
      opening_stands service meets s next id acts bytes met all (anew id refl) next at_once step
  step_stands (Bytes id m) bytes at_once met anew step =
      without_shut service meets next acts (Bytes id m) bytes at_once step.1
      (bytes_stand service meets s id acts all m bytes next met step.0)
  step_stands (Ended id) bytes at_once met anew step =
      without_shut service meets next acts (Ended id) bytes at_once step.1 (end_stands service meets s id acts all bytes next met step.0)
  step_stands (Lost id) bytes at_once met anew step =
      without_shut service meets next acts (Lost id) bytes at_once step.1 (loss_stands service meets s id acts bytes all next step.0)
  step_stands Quiet bytes at_once met anew step =
      without_shut service meets next acts Quiet bytes at_once step.1
      (subst (λ (x : State). AllStand service meets x (acts ++ (Gave Quiet bytes ∷ []))) (sym step.0)
      (AllStand-quiet service meets s acts (Gave Quiet bytes ∷ []) (λ j t. refl) all))
  step_stands Over bytes at_once met anew step =
      without_shut service meets next acts Over bytes at_once step.1
      (subst (λ (x : State). AllStand service meets x (acts ++ (Gave Over bytes ∷ []))) (sym step.0)
      (AllStand-quiet service meets s acts (Gave Over bytes ∷ []) (λ j t. refl) all))
