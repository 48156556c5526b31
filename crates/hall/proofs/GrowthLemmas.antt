-- What was stored at an event of a run stands in front of what is stored later.
use Rattle.std.proofs.Common.{◌≡◌, ◌⊎◌, ℕ, List, [], ◌++◌, Option, inl, inr, refl, sym, ◌∙◌, ap, append-nil, append_assoc}
use Rattle.edge_io.specs.Acts.{Act}
use Rattle.edge_io.specs.declared.event.Event.TheVariants.{Opened, Bytes, Ended, Lost, Quiet, Over}
use Rattle.edge_io.specs.declared.event.Event.{Event}
use Rattle.hall.proofs.OneLemmas.{each_stored, works_stored}
use Rattle.hall.specs.State.{Connection, Service, State}
use Rattle.hall.specs.Steps as steps
use Rattle.hall.specs.Steps.{Hears, Loses, Opens, Step, with_bytes, with_end}
use Rattle.hall.specs.Turns.{EventOf, Turn, Turns}
use Rattle.hall.specs.Turns.Turns.{none as none_turned, more as more_turned}
use Rattle.session_answers.specs.Stored.{Stored}

-- these profiles stand in front of those
abbrev pub StandsBefore : List Stored → List Stored → Type 0
StandsBefore front stored = (rest : List Stored) × (stored ≡ front ++ rest)

same_before : (front stored : List Stored) → stored ≡ front → StandsBefore front stored
same_before front stored same = ([], same ∙ sym (append-nil front))

pub before_more : (one other last : List Stored) → StandsBefore one other → StandsBefore other last → StandsBefore one last
before_more one other last first second = (
  first.0 ++ second.0,
  second.1 ∙ ap (λ (xs : List Stored). xs ++ second.0) first.1 ∙ append_assoc one first.0 second.0,
)

-- ---- A turn

opens_grows : (s : State) (id : ℕ) (next : State) (at_once : Option ℕ) → Opens s id next at_once → StandsBefore s.stored next.stored
opens_grows s id next at_once (steps.again known) = same_before s.stored s.stored refl
opens_grows s id next at_once (steps.held none room) = same_before s.stored s.stored refl
opens_grows s id next at_once (steps.away none many room) = same_before s.stored s.stored refl
opens_grows s id next at_once (steps.full none many turned) = same_before s.stored s.stored refl

hears_grows : (service : Service) (s : State) (id : ℕ) (heard : Connection → Connection) (next : State) → Hears service s id heard next →
    StandsBefore s.stored next.stored
hears_grows service s id heard next (steps.ignored unread) = same_before s.stored s.stored refl
hears_grows service s id heard next (steps.kept {added} known reading takes) = (added, refl)

loses_grows : (s : State) (id : ℕ) (next : State) → Loses s id next → StandsBefore s.stored next.stored
loses_grows s id next (steps.stranger none) = same_before s.stored s.stored refl
loses_grows s id next (steps.gone known) = same_before s.stored s.stored refl

-- what was stored before a step stands in front of what is stored after it
step_grows : (service : Service) (s : State) (event : Event) (given : List ℕ) (next : State) (at_once : Option ℕ) →
    Step service s event given next at_once → StandsBefore s.stored next.stored
step_grows service s (Opened id) given next at_once step = opens_grows s id next at_once step
step_grows service s (Bytes id n) given next at_once step = hears_grows service s id (with_bytes given) next step.0
step_grows service s (Ended id) given next at_once step = hears_grows service s id with_end next step.0
step_grows service s (Lost id) given next at_once step = loses_grows s id next step.0
step_grows service s Quiet given next at_once step = same_before s.stored next.stored (ap (λ (x : State). x.stored) step.0)
step_grows service s Over given next at_once step = same_before s.stored next.stored (ap (λ (x : State). x.stored) step.0)

-- the rest of a turn stores nothing
turn_keeps : (service : Service) (s new : State) (event : Event) (given : List ℕ) (own : List Act)
    (turn : Turn service s event given own new) → StandsBefore turn.stepped.stored new.stored
turn_keeps service s new event given own turn =
    same_before turn.stepped.stored new.stored
    (each_stored turn.worked new turn.order turn.served turn.serves ∙ works_stored service turn.stepped turn.worked turn.work)

turn_grows : (service : Service) (s new : State) (event : Event) (given : List ℕ) (own : List Act)
    (turn : Turn service s event given own new) → StandsBefore s.stored new.stored
turn_grows service s new event given own turn =
    before_more s.stored turn.stepped.stored new.stored (step_grows service s event given turn.stepped turn.at_once turn.step)
    (turn_keeps service s new event given own turn)

-- ---- A run

-- what was stored after the step of an event stands in front of what is stored after the turns
pub stored_after_event : (service : Service) (s new : State) (n : ℕ) (acts : List Act) (turns : Turns service s n acts new)
    (so_far : List Act) (state : State) (event : Event) (given : List ℕ) (stepped : State) →
    EventOf turns so_far state event given stepped → StandsBefore stepped.stored new.stored
stored_after_event service s new n acts none_turned so_far state event given stepped is = absurd is
stored_after_event service s new n acts (more_turned {acts = first} {own} {between} {event = latest} {bytes} turns turn) so_far state event
    given stepped (inl is) =
    before_more stepped.stored between.stored new.stored
    (stored_after_event service s between _ first turns so_far state event given stepped is)
    (turn_grows service between new latest bytes own turn)
stored_after_event service s new n acts (more_turned {acts = first} {own} {between} {event = latest} {bytes} turns turn) so_far state event
    given stepped (inr is) =
    before_more stepped.stored turn.stepped.stored new.stored
    (same_before stepped.stored turn.stepped.stored (ap (λ (x : State). x.stored) (sym is.4)))
    (turn_keeps service between new latest bytes own turn)

-- what was stored before an event stands there too
pub stored_before_event : (service : Service) (s new : State) (n : ℕ) (acts : List Act) (turns : Turns service s n acts new)
    (so_far : List Act) (state : State) (event : Event) (given : List ℕ) (stepped : State) →
    EventOf turns so_far state event given stepped → StandsBefore state.stored new.stored
stored_before_event service s new n acts none_turned so_far state event given stepped is = absurd is
stored_before_event service s new n acts (more_turned {acts = first} {own} {between} {event = latest} {bytes} turns turn) so_far state event
    given stepped (inl is) =
    before_more state.stored between.stored new.stored
    (stored_before_event service s between _ first turns so_far state event given stepped is)
    (turn_grows service between new latest bytes own turn)
stored_before_event service s new n acts (more_turned {acts = first} {own} {between} {event = latest} {bytes} turns turn) so_far state event
    given stepped (inr is) =
    before_more state.stored between.stored new.stored
    (same_before state.stored between.stored (ap (λ (x : State). x.stored) (sym is.1)))
    (turn_grows service between new latest bytes own turn)

-- of two events one is before the other, and what was stored by it stands in front of what the other met; or they are one
pub events_in_order : (service : Service) (s new : State) (n : ℕ) (acts : List Act) (turns : Turns service s n acts new)
    (far far_too : List Act) (a b : State) (e f : Event) (given given_too : List ℕ) (after_a after_b : State) →
    EventOf turns far a e given after_a → EventOf turns far_too b f given_too after_b →
    StandsBefore after_a.stored b.stored ⊎ (StandsBefore after_b.stored a.stored ⊎ (e ≡ f))
events_in_order service s new n acts none_turned far far_too a b e f given given_too after_a after_b one other = absurd one
events_in_order service s new n acts (more_turned {acts = first} {between} turns turn) far far_too a b e f given given_too after_a after_b
    (inl one) (inl other) =
    events_in_order service s between _ first turns far far_too a b e f given given_too after_a after_b one other
events_in_order service s new n acts (more_turned {acts = first} {between} turns turn) far far_too a b e f given given_too after_a after_b
    (inl one) (inr other) =
    inl (before_more after_a.stored between.stored b.stored
    (stored_after_event service s between _ first turns far a e given after_a one)
    (same_before between.stored b.stored (ap (λ (x : State). x.stored) other.1)))
events_in_order service s new n acts (more_turned {acts = first} {between} turns turn) far far_too a b e f given given_too after_a after_b
    (inr one) (inl other) =
    inr (inl (before_more after_b.stored between.stored a.stored
    (stored_after_event service s between _ first turns far_too b f given_too after_b other)
    (same_before between.stored a.stored (ap (λ (x : State). x.stored) one.1))))
events_in_order service s new n acts (more_turned {acts = first} {between} turns turn) far far_too a b e f given given_too after_a after_b
    (inr one) (inr other) =
    inr (inr (one.2 ∙ sym other.2))
