-- What a turn does to one connection, and what it leaves of the others.
use Rattle.std.proofs.Common.{◌≡◌, ◌≢◌, ◌==◌, ℕ, false, take, List, [], ◌∷◌, ◌++◌, Option, Some, None, inl, inr, refl, sym, ◌∙◌, ap, subst, append-nil, append_assoc}
use Rattle.std.proofs.lemmas.Bool.{cases_eq, eq-eqb, false≢true, ne_eqb}
use Rattle.edge_io.specs.Acts.{Act, Took, Broke, Closed, is_event_of}
use Rattle.edge_io.specs.declared.event.Event.{Event}
use Rattle.edge_io.specs.declared.event.Event.TheVariants.{Opened, Bytes, Ended, Lost, Quiet, Over}
use Rattle.hall.proofs.ChangeLemmas.{changes_gone, changes_left, changes_now, changes_put}
use Rattle.hall.proofs.IdLemmas.{among_first, among_last, among_split, different_split}
use Rattle.hall.proofs.TrafficLemmas.{AreApart, AreApart-more, AreApart-none, AreApart-one}
use Rattle.hall.specs.Held.{AreDifferent, IsAmong}
use Rattle.hall.specs.Sends.{Closes, Sends, Serves, ServesEach}
use Rattle.hall.specs.Sends as sending
use Rattle.hall.specs.State.{Connection, Service, State, changed, left_as}
use Rattle.hall.specs.Steps.{GoesOn, Hears, Loses, Opens, Step, Works, session, turned_away, with_bytes, with_end}
use Rattle.hall.specs.Steps as steps
use Rattle.hall.specs.Turns.{Turn}
use Rattle.hall.specs.Sends.ServesEach.{none as none_served, more as more_served}
use Rattle.session_answers.specs.Stored.{Stored}

-- ---- An event

another : (id j : ℕ) → (id == j) ≡ false → j ≢ id
another id j off same = false≢true (sym off ∙ eq-eqb id j (sym same))

opens_else : (s : State) (id j : ℕ) (next : State) (at_once : Option ℕ) → j ≢ id → Opens s id next at_once → next.known j ≡ s.known j
opens_else s id j next at_once ne (steps.again known) = refl
opens_else s id j next at_once ne (steps.held none room) = (changes_put s id (Some session)).others j ne
opens_else s id j next at_once ne (steps.away none many room) = (changes_put s id (Some turned_away)).others j ne
opens_else s id j next at_once ne (steps.full none many turned) = refl

hears_else : (service : Service) (s : State) (id j : ℕ) (heard : Connection → Connection) (next : State) → j ≢ id →
    Hears service s id heard next → next.known j ≡ s.known j
hears_else service s id j heard next ne (steps.ignored unread) = refl
hears_else service s id j heard next ne (steps.kept {c} {now} {added} known reading takes) =
    (changes_now s s.waiting id now added).others j ne

loses_else : (s : State) (id j : ℕ) (next : State) → j ≢ id → Loses s id next → next.known j ≡ s.known j
loses_else s id j next ne (steps.stranger none) = refl
loses_else s id j next ne (steps.gone known) = (changes_gone s id).others j ne

-- an event of another connection leaves what is known of this one
pub step_else : (service : Service) (s : State) (event : Event) (bytes : List ℕ) (next : State) (at_once : Option ℕ) (j : ℕ) →
    Step service s event bytes next at_once → is_event_of j event ≡ false → next.known j ≡ s.known j
step_else service s (Opened id) bytes next at_once j step off = opens_else s id j next at_once (another id j off) step
step_else service s (Bytes id n) bytes next at_once j step off = hears_else service s id j (with_bytes bytes) next (another id j off) step.0
step_else service s (Ended id) bytes next at_once j step off = hears_else service s id j with_end next (another id j off) step.0
step_else service s (Lost id) bytes next at_once j step off = loses_else s id j next (another id j off) step.0
step_else service s Quiet bytes next at_once j step off = ap (λ (x : State). x.known j) step.0
step_else service s Over bytes next at_once j step off = ap (λ (x : State). x.known j) step.0

-- ---- Work

-- what a turn of work does to one connection: nothing, or its search has a turn
pub data WorkedOf (service : Service) (stored : List Stored) : Option Connection → Option Connection → Type 0 where
  rests : {x : Option Connection} → WorkedOf service stored x x
  goes : {c now : Connection} → GoesOn service stored c now → WorkedOf service stored (Some c) (Some now)

pub worked_of : (service : Service) (s next : State) (id : ℕ) → Works service s next →
    WorkedOf service s.stored (s.known id) (next.known id)
worked_of service s next id (steps.idle none) = rests
worked_of service s next id (steps.turn {id = first} {rest} {c} {now} is known turn) =
    let changes = changes_now s rest first now [] in
    elim (cases_eq id first) [
      | inl same ↦
          subst (λ (i : ℕ). WorkedOf service s.stored (s.known i) ((changed (record s { waiting = rest }) first now []).known i)) (sym same)
          (subst (λ (x : Option Connection). WorkedOf service s.stored x ((changed (record s { waiting = rest }) first now []).known first))
          (sym known)
          (subst (WorkedOf service s.stored (Some c)) (sym changes.here) (goes turn)))
      | inr else ↦ subst (WorkedOf service s.stored (s.known id)) (sym (changes.others id else)) rests
    ]

-- nothing is stored by it
pub works_stored : (service : Service) (s next : State) → Works service s next → next.stored ≡ s.stored
works_stored service s next (steps.idle none) = refl
works_stored service s next (steps.turn first known turn) = append-nil s.stored

-- ---- Serving

sends_apart : (id j : ℕ) (c : Connection) (acts : List Act) (left : Option Connection) → j ≢ id → Sends id c acts left → AreApart j acts
sends_apart id j c acts left ne (sending.nothing none) = AreApart-none j
sends_apart id j c acts left ne (sending.taken piece n is fits) = AreApart-one j (Took id (take n piece)) (ne_eqb id j (λ e. ne (sym e)))
sends_apart id j c acts left ne (sending.broken piece is) = AreApart-one j (Broke id) (ne_eqb id j (λ e. ne (sym e)))

closes_apart : (id j : ℕ) (acts : List Act) (between left : Option Connection) → j ≢ id → Closes id between acts left → AreApart j acts
closes_apart id j acts between left ne sending.gone = AreApart-none j
closes_apart id j acts between left ne (sending.stays open_still) = AreApart-none j
closes_apart id j acts between left ne (sending.done all) = AreApart-one j (Closed id) (ne_eqb id j (λ e. ne (sym e)))

serves_apart : (id j : ℕ) (c : Connection) (acts : List Act) (left : Option Connection) → j ≢ id → Serves id c acts left → AreApart j acts
serves_apart id j c acts left ne serves =
    subst (AreApart j) (sym serves.acts_are)
    (AreApart-more j serves.sends serves.closes (sends_apart id j c serves.sends serves.between ne serves.sent)
    (closes_apart id j serves.closes serves.between left ne serves.closed))

-- what serving all does to one connection: one that isn't held stays so, by acts on others; one that is held is served once, by acts
-- among those on others
pub data ServedOf (id : ℕ) : Option Connection → List Act → Option Connection → Type 0 where
  other : {acts : List Act} → AreApart id acts → ServedOf id None acts None
  own_acts :
      {c : Connection} {acts : List Act} {left : Option Connection} (before mine after : List Act) → AreApart id before →
      Serves id c mine left →
      AreApart id after → acts ≡ before ++ (mine ++ after) → ServedOf id (Some c) acts left

served_more : (id : ℕ) (x y : Option Connection) (acts more : List Act) → AreApart id more → ServedOf id x acts y →
    ServedOf id x (acts ++ more) y
served_more id x y acts more apart (other first) = other (AreApart-more id acts more first apart)
served_more id x y acts more apart (own_acts before mine after first serves last is) =
    own_acts before mine (after ++ more) first serves (AreApart-more id after more last apart)
    (ap (λ (xs : List Act). xs ++ more) is ∙ append_assoc before (mine ++ after) more
    ∙ ap (λ (xs : List Act). before ++ xs) (append_assoc mine after more))

-- one that isn't among those that are served
each_else : (s new : State) (ids : List ℕ) (acts : List Act) (id : ℕ) → ServesEach s ids acts new → (IsAmong id ids → ⊥) →
    (new.known id ≡ s.known id) × AreApart id acts
each_else s new ids acts id none_served none = (refl, AreApart-none id)
each_else s new ids acts id (more_served {ids = first} {id = last} {acts = before} {own} {between} {c} {left} each known serves) none =
    let earlier = each_else s between first before id each (λ h. none (among_first id first (last ∷ []) h)) in
    let ne : id ≢ last = λ e. none (among_last id first (last ∷ []) (inl (sym e))) in (
      (changes_left between last left).others id ne
          ∙ earlier.0,
      AreApart-more id before own earlier.1 (serves_apart last id c own left ne serves),
    )

-- and one that is
abbrev HasServed : State → ℕ → List Act → Option Connection → Type 0
HasServed s id acts left = (c : Connection) × (s.known id ≡ Some c) × ServedOf id (Some c) acts left

each_own : (s new : State) (ids : List ℕ) (acts : List Act) (id : ℕ) → ServesEach s ids acts new → AreDifferent ids → IsAmong id ids →
    HasServed s id acts (new.known id)
each_own s new ids acts id none_served once among = absurd among
each_own s new ids acts id (more_served {ids = first} {id = last} {acts = before} {own} {between} {c} {left} each known serves) once among =
    let apart = different_split first last once in
    elim (among_split id first (last ∷ []) among) [
      | inl earlier ↦
          (let ne : id ≢ last = λ e. apart.1 (subst (λ (i : ℕ). IsAmong i first) e earlier) in
          let had = each_own s between first before id each apart.0 earlier in (
            had.0,
            had.1,
            subst (ServedOf id (Some had.0) (before ++ own)) (sym ((changes_left between last left).others id ne))
                (served_more id (Some had.0) (between.known id) before own (serves_apart last id c own left ne serves) had.2),
          ))
      | inr (inl same) ↦
          (let none = each_else s between first before last each apart.1 in
          subst (λ (i : ℕ). HasServed s i (before ++ own) ((left_as between last left).known i)) same (
            c,
            sym none.0 ∙ known,
            subst (ServedOf last (Some c) (before ++ own)) (sym (changes_left between last left).here)
                (own_acts before own [] none.1 serves (AreApart-none last) (ap (λ (xs : List Act). before ++ xs) (sym (append-nil own)))),
          ))
      | inr (inr never) ↦ absurd never
    ]

-- nothing is stored by it
pub each_stored : (s new : State) (ids : List ℕ) (acts : List Act) → ServesEach s ids acts new → new.stored ≡ s.stored
each_stored s new ids acts none_served = refl
each_stored s new ids acts (more_served {ids = first} {id} {acts = before} {own} {between} {c} {left} each known serves) =
    (changes_left between id left).stored ∙ append-nil between.stored ∙ each_stored s between first before each

-- ---- A turn

-- what a turn does to one connection: where the event is another's, the step does nothing; then its search may have a turn; then it is
-- served, where it is held
pub record TurnOf (service : Service) (s stepped worked new : State) (event : Event) (served : List Act) (id : ℕ) : Type 0 where
  pub step : is_event_of id event ≡ false → stepped.known id ≡ s.known id
  pub work : WorkedOf service stepped.stored (stepped.known id) (worked.known id)
  pub serves : ServedOf id (worked.known id) served (new.known id)

pub turn_of : (service : Service) (s new : State) (event : Event) (bytes : List ℕ) (acts : List Act) (turn :
    Turn service s event bytes acts new) (id : ℕ) → TurnOf service s turn.stepped turn.worked new event turn.served id
turn_of service s new event bytes acts turn id = record {
  step = step_else service s event bytes turn.stepped turn.at_once id turn.step;
  work = worked_of service turn.stepped turn.worked id turn.work;
  serves = by_known (turn.worked.known id) refl;
}
  where
    by_known : (x : Option Connection) → turn.worked.known id ≡ x → ServedOf id (turn.worked.known id) turn.served (new.known id)
    by_known None is =
        let none = each_else turn.worked new turn.order turn.served id turn.serves
        (λ among. let has = turn.all.held id among in let clash : None ≡ Some has.0 = sym is ∙ has.1 in cc) in
        subst (λ (y : Option Connection). ServedOf id (turn.worked.known id) turn.served y) (sym none.0)
        (subst (λ (y : Option Connection). ServedOf id y turn.served y) (sym is) (other none.1))
    by_known (Some c) is =
        let own = each_own turn.worked new turn.order turn.served id turn.serves turn.all.once (turn.all.whole id c is) in
        subst (λ (y : Option Connection). ServedOf id y turn.served (new.known id)) (sym own.1) own.2
