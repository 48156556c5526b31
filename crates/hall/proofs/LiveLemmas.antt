-- Whom the hub holds while events are taken and connections are served.
use Rattle.std.proofs.Common.{◌≡◌, ◌⊎◌, ℕ, false, List, [], ◌∷◌, Option, Some, None, inl, inr, refl, sym, ◌∙◌, ap, subst}
use Rattle.std.proofs.lemmas.Bool.{cases_eq, ne_eqb}
use Rattle.edge_io.specs.Acts.{Act, Gave, Closed, is_end_of}
use Rattle.edge_io.specs.Hub.{Closes as ClosesAt, HubSeen, Tells}
use Rattle.edge_io.specs.declared.event.Event.{Event}
use Rattle.edge_io.specs.declared.event.Event.TheVariants.{Opened, Bytes, Ended, Lost, Quiet, Over}
use Rattle.edge_io.proofs.CallerLemmas.{IsLive-kept, IsLive-opened, Tells-live}
use Rattle.hall.proofs.ChangeLemmas.{Changes, changes_gone, changes_now, changes_put}
use Rattle.hall.specs.Serving.{AreLive}
use Rattle.hall.specs.Served.{Heard, Stepped}
use Rattle.hall.specs.State.{Connection, Service, State, changed, freed}
use Rattle.hall.specs.Steps.{Hears, Loses, Opens, Step, Works, session, turned_away, with_bytes, with_end}
use Rattle.hall.specs.Steps as steps
use Rattle.session_answers.specs.Stored.{Stored}

-- ---- Ids that are held

-- a connection is held
abbrev pub IsIn : State → ℕ → Type 0
IsIn s id = (c : Connection) × (s.known id ≡ Some c)

-- who is held now was held before
abbrev pub KeepsIds : State → State → Type 0
KeepsIds s new = (id : ℕ) (c : Connection) → new.known id ≡ Some c → IsIn s id

-- so it is where one that is held changes
keeps_changes : (s new : State) (id : ℕ) (x : Option Connection) (added : List Stored) (c : Connection) → Changes s new id x added →
    s.known id ≡ Some c → KeepsIds s new
keeps_changes s new id x added c changes known j d has =
    elim (cases_eq j id) [
      | inl same ↦ (c, ap s.known same ∙ known)
      | inr other ↦ (d, sym (changes.others j other) ∙ has)
    ]

-- a turn of work keeps ids
pub KeepsIds-work : (service : Service) (s next : State) → Works service s next → KeepsIds s next
KeepsIds-work service s next (steps.idle none) j d has = (d, has)
KeepsIds-work service s next (steps.turn {id} {rest} {c} {now} first known goes) j d has =
    keeps_changes s (changed (record s { waiting = rest }) id now []) id (Some now) [] c (changes_now s rest id now []) known j d has

-- where ids are kept and no connection ends, the hub holds whom it held
pub AreLive-kept : (s : State) (old new : HubSeen) (act : Act) → ((id : ℕ) → is_end_of id act ≡ false) →
    Tells old.acts new.acts (act ∷ []) → AreLive s old → AreLive s new
AreLive-kept s old new act stays tells live id c known = IsLive-kept old.acts new.acts id act tells (stays id) (live id c known)

pub AreLive-ids : (s next : State) (seen : HubSeen) → KeepsIds s next → AreLive s seen → AreLive next seen
AreLive-ids s next seen keeps live id c known = let was = keeps id c known in live id was.0 was.1

-- ---- An event is heard

-- whether an event ends a connection doesn't go by its bytes
ends_alike : (id : ℕ) (event : Event) (xs ys : List ℕ) → is_end_of id (Gave event xs) ≡ is_end_of id (Gave event ys)
ends_alike id (Opened at) xs ys = refl
ends_alike id (Bytes at n) xs ys = refl
ends_alike id (Ended at) xs ys = refl
ends_alike id (Lost at) xs ys = refl
ends_alike id Quiet xs ys = refl
ends_alike id Over xs ys = refl

-- the hub holds whom the event opened, and whom it held but didn't end
pub heard : (s : State) (old new : HubSeen) (event : Event) (bytes : List ℕ) → AreLive s old →
    Tells old.acts new.acts (Gave event bytes ∷ []) → Heard s new event
heard s old new event bytes live tells = record {
  opened = λ id is.
      IsLive-opened old.acts new.acts id bytes (subst (λ (e : Event). Tells old.acts new.acts (Gave e bytes ∷ [])) is tells);
  others = λ id c known stays.
      IsLive-kept old.acts new.acts id (Gave event bytes) tells (ends_alike id event bytes [] ∙ stays) (live id c known);
}

-- ---- The hall takes it

-- who is held after a step was opened by it, or was held before and wasn't ended
abbrev CameFrom : State → Event → ℕ → Type 0
CameFrom s event id = (event ≡ Opened id) ⊎ (IsIn s id × (is_end_of id (Gave event []) ≡ false))

came_opened : (s : State) (id : ℕ) (next : State) (shut : Option ℕ) → Opens s id next shut → (j : ℕ) (d : Connection) →
    next.known j ≡ Some d → CameFrom s (Opened id) j
came_opened s id next shut (steps.again known) j d has = inr ((d, has), refl)
came_opened s id next shut (steps.full none many turned) j d has = inr ((d, has), refl)
came_opened s id next shut (steps.held none room) j d has =
    elim (cases_eq j id) [
      | inl same ↦ inl (ap (λ (i : ℕ). Opened i) (sym same))
      | inr other ↦ inr ((d, sym ((changes_put s id (Some session)).others j other) ∙ has), refl)
    ]
came_opened s id next shut (steps.away none many room) j d has =
    elim (cases_eq j id) [
      | inl same ↦ inl (ap (λ (i : ℕ). Opened i) (sym same))
      | inr other ↦ inr ((d, sym ((changes_put s id (Some turned_away)).others j other) ∙ has), refl)
    ]

keeps_hears : (service : Service) (s next : State) (id : ℕ) (said : Connection → Connection) → Hears service s id said next →
    KeepsIds s next
keeps_hears service s next id said (steps.ignored unread) j d has = (d, has)
keeps_hears service s next id said (steps.kept {c} {now} {added} known reading takes) j d has =
    keeps_changes s (changed s id now added) id (Some now) added c (changes_now s s.waiting id now added) known j d has

came_lost : (s : State) (id : ℕ) (next : State) → Loses s id next → (j : ℕ) (d : Connection) → next.known j ≡ Some d →
    IsIn s j × (is_end_of j (Gave (Lost id) []) ≡ false)
came_lost s id next (steps.stranger none) j d has =
    ((d, has), ne_eqb id j (λ e. (let clash : Some d ≡ None = sym has ∙ ap s.known (sym e) ∙ none in cc)))
came_lost s id next (steps.gone {c} known) j d has =
    elim (cases_eq j id) [
      | inl same ↦ (let clash : Some d ≡ None = sym has ∙ ap (freed s id).known same ∙ (changes_gone s id).here in absurd (cc))
      | inr other ↦ ((d, sym ((changes_gone s id).others j other) ∙ has), ne_eqb id j (λ e. other (sym e)))
    ]

came_from : (service : Service) (s next : State) (event : Event) (bytes : List ℕ) (shut : Option ℕ) → Step service s event bytes next shut →
    (j : ℕ) (d : Connection) → next.known j ≡ Some d → CameFrom s event j
came_from service s next (Opened id) bytes shut step j d has = came_opened s id next shut step j d has
came_from service s next (Bytes id n) bytes shut step j d has = inr (keeps_hears service s next id (with_bytes bytes) step.0 j d has, refl)
came_from service s next (Ended id) bytes shut step j d has = inr (keeps_hears service s next id with_end step.0 j d has, refl)
came_from service s next (Lost id) bytes shut step j d has = inr (came_lost s id next step.0 j d has)
came_from service s next Quiet bytes shut step j d has = inr ((d, subst (λ (x : State). x.known j ≡ Some d) step.0 has), refl)
came_from service s next Over bytes shut step j d has = inr ((d, subst (λ (x : State). x.known j ≡ Some d) step.0 has), refl)

-- the hub holds who is held after a step
pub step_live : (service : Service) (s next : State) (seen : HubSeen) (event : Event) (bytes : List ℕ) (shut : Option ℕ) →
    Heard s seen event → Step service s event bytes next shut → AreLive next seen
step_live service s next seen event bytes shut heard step j d has =
    elim (came_from service s next event bytes shut step j d has) [
      | inl opened ↦ heard.opened j opened
      | inr stayed ↦ heard.others j stayed.0.0 stayed.0.1 stayed.1
    ]

-- ---- A connection for which there is no room is closed

-- it was opened, and isn't held
record IsTurnedOff (next : State) (event : Event) (id : ℕ) : Type 0 where
  opened : event ≡ Opened id
  none : next.known id ≡ None

off_by_opening : (s : State) (id : ℕ) (next : State) (at : ℕ) (shut : Option ℕ) → shut ≡ Some at → Opens s id next shut →
    IsTurnedOff next (Opened id) at
off_by_opening s id next at shut is (steps.again known) = cc
off_by_opening s id next at shut is (steps.held none room) = cc
off_by_opening s id next at shut is (steps.away none many room) = cc
off_by_opening s id next at shut is (steps.full none many turned) =
    let same : id ≡ at = cc in
    record { opened = ap (λ (i : ℕ). Opened i) same; none = ap s.known (sym same) ∙ none }

off_by : (service : Service) (s next : State) (event : Event) (bytes : List ℕ) (id : ℕ) (shut : Option ℕ) → shut ≡ Some id →
    Step service s event bytes next shut → IsTurnedOff next event id
off_by service s next (Opened at) bytes id shut is step = off_by_opening s at next id shut is step
off_by service s next (Bytes at n) bytes id shut is step = (let clash : None ≡ Some id = sym step.1 ∙ is in absurd (cc))
off_by service s next (Ended at) bytes id shut is step = (let clash : None ≡ Some id = sym step.1 ∙ is in absurd (cc))
off_by service s next (Lost at) bytes id shut is step = (let clash : None ≡ Some id = sym step.1 ∙ is in absurd (cc))
off_by service s next Quiet bytes id shut is step = (let clash : None ≡ Some id = sym step.1 ∙ is in absurd (cc))
off_by service s next Over bytes id shut is step = (let clash : None ≡ Some id = sym step.1 ∙ is in absurd (cc))

-- it is closed, and the hub holds the others
pub record StepsLive (service : Service) (s : State) (old : HubSeen) (event : Event) (bytes : List ℕ) (left : State) (new : HubSeen) :
    Type 0 where
  pub stepped : Stepped service s old event bytes left new
  pub live : AreLive left new

pub step_closes : (service : Service) (s next : State) (old new : HubSeen) (event : Event) (bytes : List ℕ) (id : ℕ) → Heard s old event →
    Step service s event bytes next (Some id) → ClosesAt old new id → StepsLive service s old event bytes next new
step_closes service s next old new event bytes id heard step closes =
    let is = off_by service s next event bytes id (Some id) refl step in
    let tells : Tells old.acts new.acts (Closed id ∷ []) =
    Tells-live old.acts new.acts id (Closed id) (heard.opened id is.opened) closes.acts in
    record {
      stepped = record { none = Some id; step = step; goes = record { tells = tells; faults = closes.faults } };
      live = λ j d has.
          IsLive-kept old.acts new.acts j (Closed id) tells
          (ne_eqb id j (λ e. (let clash : Some d ≡ None = sym has ∙ ap next.known (sym e) ∙ is.none in cc)))
          (step_live service s next old event bytes (Some id) heard step j d has);
    }
