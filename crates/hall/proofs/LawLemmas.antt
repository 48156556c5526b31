-- Connections don't mix: the induction over the turns of a run.
use Rattle.std.proofs.Common.{◌≡◌, ℕ, Bool, true, false, List, [], ◌∷◌, ◌++◌, inl, inr, refl, sym, ◌∙◌, ap, subst, append_assoc}
use Rattle.edge_io.specs.Acts.{Act, Gave, OpensOnce, Traffic, after_acts}
use Rattle.edge_io.specs.declared.event.Event.{Event}
use Rattle.edge_io.specs.declared.event.Event.TheVariants.{Opened}
use Rattle.hall.proofs.OneLemmas.{each_stored, turn_of, works_stored}
use Rattle.hall.proofs.ServeLemmas.{served_stands, work_stands}
use Rattle.hall.proofs.StandLemmas.{AllStand-quiet, gets_own}
use Rattle.hall.proofs.Status.{AllStand, Stands, unheard}
use Rattle.hall.proofs.StepLemmas.{OpensAnew, step_stands}
use Rattle.hall.specs.Law.{GetsOwn, KeepsApart}
use Rattle.hall.specs.State.{Service, State, empty_hall}
use Rattle.hall.specs.Turns.{EventOf, Meets, Turn, Turns, last_act, shut}
use Rattle.hall.specs.Turns.Turns.{none, more}
use Rattle.session_answers.specs.Stored.{Stored}

-- ---- A turn

-- what a turn opens wasn't opened before
opens_anew : (service : Service) (s new : State) (acts own : List Act) (event : Event) (bytes : List ℕ) → OpensOnce (acts ++ own) →
    Turn service s event bytes own new → OpensAnew acts event
opens_anew service s new acts own event bytes once turn id opens =
    once acts (shut turn.at_once ++ turn.served) id bytes
    (ap (λ (xs : List Act). acts ++ xs) turn.acts_are
    ∙ ap (λ (e : Event). acts ++ (Gave e bytes ∷ (shut turn.at_once ++ turn.served))) opens)

-- all stand after a turn
turn_stands : (service : Service) (meets : Meets) (s new : State) (acts own : List Act) (event : Event) (bytes :
    List ℕ) (turn : Turn service s event bytes own new) → meets acts s event bytes turn.stepped → OpensOnce (acts ++ own) →
    AllStand service meets s acts → AllStand service meets new (acts ++ own)
turn_stands service meets s new acts own event bytes turn met once all id =
    let first : List Act = Gave event bytes ∷ shut turn.at_once in
    let is : acts ++ own ≡ acts ++ (first ++ turn.served) = ap (λ (xs : List Act). acts ++ xs) turn.acts_are in
    let stepped = step_stands service meets s turn.stepped acts all event bytes turn.at_once met
    (opens_anew service s new acts own event bytes once turn) turn.step in
    let of = turn_of service s new event bytes own turn id in
    let worked = work_stands service meets turn.stepped.stored id (acts ++ first) (turn.stepped.known id) (turn.worked.known id)
    of.work (stepped id) in
    let kept : turn.worked.stored ≡ turn.stepped.stored = works_stored service turn.stepped turn.worked turn.work in
    let here = subst (λ (l : List Stored). Stands service meets l id (acts ++ first) (turn.worked.known id)) (sym kept) worked in
    let served = served_stands service meets turn.worked.stored id (acts ++ first) turn.served (turn.worked.known id) (new.known id)
    here of.serves in
    subst (λ (l : List Stored). Stands service meets l id (acts ++ own) (new.known id))
    (sym (each_stored turn.worked new turn.order turn.served turn.serves))
    (subst (λ (xs : List Act). Stands service meets turn.worked.stored id xs (new.known id)) (append_assoc acts first turn.served ∙ sym is)
    served)

-- ---- A run

-- no connection is opened twice by the first acts
pub once_before : (xs ys : List Act) → OpensOnce (xs ++ ys) → OpensOnce xs
once_before xs ys once before after id bytes is =
    once before (after ++ ys) id bytes (ap (λ (all : List Act). all ++ ys) is ∙ append_assoc before (Gave (Opened id) bytes ∷ after) ys)

-- before any act all connections are new
all_new : (service : Service) (meets : Meets) (given : List Stored) → AllStand service meets (empty_hall given) []
all_new service meets given id = unheard (record { unopened = refl; none = refl; unclosed = refl })

-- the events of turns are among these
abbrev pub AreMet : {service : Service} {s new : State} {n : ℕ} {acts : List Act} → Turns service s n acts new → Meets → Type 0
AreMet turns meets =
    (so_far : List Act) (state : State) (event : Event) (given : List ℕ) (stepped : State) →
    EventOf turns so_far state event given stepped → meets so_far state event given stepped

-- all stand after turns, whose events these are among others
pub turns_stand : (service : Service) (meets : Meets) (given : List Stored) (s : State) (n : ℕ) (acts : List Act)
    (turns : Turns service (empty_hall given) n acts s) → AreMet turns meets → OpensOnce acts → AllStand service meets s acts
turns_stand service meets given s n acts none met once = all_new service meets given
turns_stand service meets given s n acts (more {n = before} {acts = first} {own} {between} {event} {bytes} turns turn) met once =
    turn_stands service meets between s first own event bytes turn
    (met first between event bytes turn.stepped (inr (refl, refl, refl, refl, refl))) once
    (turns_stand service meets given between before first turns
    (λ so_far state latest given stepped is. met so_far state latest given stepped (inl is))
    (once_before first own once))

-- the last event is on no connection
last_is_quiet : (over : Bool) (j : ℕ) (t : Traffic) → after_acts j t (last_act over) ≡ t
last_is_quiet false j t = refl
last_is_quiet true j t = refl

-- connections don't mix
pub keeps_apart : (service : Service) → KeepsApart service
keeps_apart service given n over acts s run once id =
    let all = turns_stand service (EventOf run.turns) given s n run.turned run.turns (λ so_far state event given stepped is. is)
    (once_before run.turned (last_act over) (subst OpensOnce run.acts_are once)) in
    let still = AllStand-quiet service (EventOf run.turns) s run.turned (last_act over) (last_is_quiet over) all in
    subst (GetsOwn service (EventOf run.turns) id) (sym run.acts_are)
    (gets_own service (EventOf run.turns) s.stored id (run.turned ++ last_act over) (s.known id) (still id))
