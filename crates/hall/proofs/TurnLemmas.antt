-- How turns are put together of what the hub told.
use Rattle.std.proofs.Common.{◌≡◌, ◌≢◌, ◌<◌, ℕ, ◌+◌, add-one, true, false, List, [], ◌∷◌, ◌++◌, take, Option, Some, None, refl, sym, ◌∙◌, ap, subst, append-nil, append_assoc}
use Rattle.edge_io.specs.Acts.{Act, Gave, Took, Broke, Closed, OpensOnce}
use Rattle.edge_io.specs.Faults.{CountRose}
use Rattle.edge_io.specs.Hub.{HubSeen, IsFresh, IsFreshAmong, Tells}
use Rattle.edge_io.specs.declared.event.Event.{Event}
use Rattle.edge_io.specs.declared.event.Event.TheVariants.{Over}
use Rattle.edge_io.proofs.CallerLemmas.{IsFresh-later, OpensOnce-more, OpensOnce-none, Tells-more}
use Rattle.hall.proofs.ServedLemmas.{Goes-more, Goes-none}
use Rattle.hall.specs.Sends.{Closes, Sends, nothing, taken, broken, gone, stays, done, ServesEach}
use Rattle.hall.specs.Serving.{Goes, ServedAll}
use Rattle.hall.specs.Served.{OpenOnceIn, Served, Stepped, TurnComesTo, TookTurn, TookTurns, Turned}
use Rattle.hall.specs.State.{Connection, Service, State}
use Rattle.hall.specs.Steps.{Works}
use Rattle.hall.specs.Turns.{Turn, Turns, shut}
use Rattle.hall.specs.Sends.ServesEach.{none as none_each, more as more_each}
use Rattle.hall.specs.Turns.Turns.{none as no_turn, more as one_more}
use Rattle.hall.specs.declared.serve_end.ServeEnd.{ServeEnd}
use Rattle.hall.specs.declared.serve_end.ServeEnd.TheVariants as why

-- ---- a turn

-- a step, work, and all connections
pub turned : (service : Service) (s stepped worked left : State) (old mid new : HubSeen) (event : Event) (bytes : List ℕ) → event ≢ Over →
    Stepped service s old event bytes stepped mid → Works service stepped worked → ServedAll worked mid left new →
    Turned service s old event bytes left new
turned service s stepped worked left old mid new event bytes goes_on step work all = record {
  acts = shut step.none ++ all.each.acts;
  turn = record {
    goes_on = goes_on;
    stepped = stepped;
    at_once = step.none;
    step = step.step;
    worked = worked;
    work = work;
    order = all.order;
    all = all.all;
    served = all.each.acts;
    serves = all.each.serves;
    acts_are = refl;
  };
  goes = Goes-more old mid new (shut step.none) all.each.acts step.goes all.each.goes;
}

-- with the event before it
pub took_turn : (service : Service) (s left : State) (old mid new : HubSeen) (event : Event) (bytes : List ℕ) → IsFresh old.acts event →
    Tells old.acts mid.acts (Gave event bytes ∷ []) → mid.faults ≡ old.faults → Turned service s mid event bytes left new →
    TookTurn service s old left new
took_turn service s left old mid new event bytes fresh tells faults turn = record {
  event = event;
  bytes = bytes;
  acts = Gave event bytes ∷ turn.acts;
  turn = turn.turn;
  fresh = fresh;
  goes = Goes-more old mid new (Gave event bytes ∷ []) turn.acts (record { tells = tells; faults = faults }) turn.goes;
}

-- ---- no connection is opened twice

-- closes open nothing
once_shut : (acts : List Act) (done : Option ℕ) → OpensOnce acts → OpensOnce (acts ++ shut done)
once_shut acts None once = subst OpensOnce (sym (append-nil acts)) once
once_shut acts (Some id) once = OpensOnce-more acts (Closed id) once tt

-- nor do sends
once_sends : (acts : List Act) (id : ℕ) (c : Connection) (more : List Act) (left : Option Connection) → OpensOnce acts →
    Sends id c more left → OpensOnce (acts ++ more)
once_sends acts id c more left once (nothing none) = subst OpensOnce (sym (append-nil acts)) once
once_sends acts id c more left once (taken piece n is fits) = OpensOnce-more acts (Took id (take n piece)) once tt
once_sends acts id c more left once (broken piece is) = OpensOnce-more acts (Broke id) once tt

once_closes : (acts : List Act) (id : ℕ) (between : Option Connection) (more : List Act) (left : Option Connection) → OpensOnce acts →
    Closes id between more left → OpensOnce (acts ++ more)
once_closes acts id between more left once gone = subst OpensOnce (sym (append-nil acts)) once
once_closes acts id between more left once (stays open_still) = subst OpensOnce (sym (append-nil acts)) once
once_closes acts id between more left once (done all) = OpensOnce-more acts (Closed id) once tt

-- nor does serving connections
once_each : (acts : List Act) (s : State) (ids : List ℕ) (more : List Act) (next : State) → OpensOnce acts → ServesEach s ids more next →
    OpensOnce (acts ++ more)
once_each acts s ids more next once none_each = subst OpensOnce (sym (append-nil acts)) once
once_each acts s ids more next once (more_each {ids = before} {id} {acts = first} {own} {between} {c} {left} each known serves) =
    let sent = once_sends (acts ++ first) id c serves.sends serves.between (once_each acts s before first between once each) serves.sent in
    let closed = once_closes ((acts ++ first) ++ serves.sends) id serves.between serves.closes left sent serves.closed in
    subst OpensOnce
    (append_assoc (acts ++ first) serves.sends serves.closes
    ∙ ap (λ (xs : List Act). (acts ++ first) ++ xs) (sym serves.acts_are) ∙ append_assoc acts first own) closed

-- a turn opens nothing again
once_turn : (service : Service) (acts own : List Act) (s next : State) (event : Event) (bytes : List ℕ) → OpensOnce acts →
    IsFreshAmong acts event → Turn service s event bytes own next → OpensOnce (acts ++ own)
once_turn service acts own s next event bytes once fresh turn =
    let given = OpensOnce-more acts (Gave event bytes) once fresh in
    let closed = once_shut (acts ++ (Gave event bytes ∷ [])) turn.at_once given in
    let all = once_each ((acts ++ (Gave event bytes ∷ [])) ++ shut turn.at_once) turn.worked turn.order turn.served next closed
    turn.serves in
    subst OpensOnce
    (append_assoc (acts ++ (Gave event bytes ∷ [])) (shut turn.at_once) turn.served
    ∙ append_assoc acts (Gave event bytes ∷ []) (shut turn.at_once ++ turn.served)
    ∙ ap (λ (xs : List Act). acts ++ xs) (sym turn.acts_are)) all

-- so does none since some moment
once_in : (service : Service) (old mid : Option (List Act)) (acts own : List Act) (s next : State) (event : Event) (bytes : List ℕ) →
    Tells old mid acts → OpenOnceIn old acts → IsFresh mid event → Turn service s event bytes own next → OpenOnceIn old (acts ++ own)
once_in service None mid acts own s next event bytes tells once fresh turn = tt
once_in service (Some first) None acts own s next event bytes tells once fresh turn = absurd tells
once_in service (Some first) (Some all) acts own s next event bytes tells once fresh turn =
    once_turn service acts own s next event bytes once
    (IsFresh-later first acts event (subst (λ (xs : List Act). IsFreshAmong xs event) tells fresh)) turn

-- ---- turns

-- none so far
pub no_turns : (service : Service) (s : State) (seen : HubSeen) → TookTurns service s seen 0 s seen
no_turns service s seen = record { acts = []; turns = no_turn; once = none_in seen.acts; goes = Goes-none seen }
  where
    none_in : (acts : Option (List Act)) → OpenOnceIn acts []
    none_in None = tt
    none_in (Some acts) = OpensOnce-none

-- one more turn
pub one_more_turn : (service : Service) (s between left : State) (old mid new : HubSeen) (n : ℕ) → TookTurns service s old n between mid →
    TookTurn service between mid left new → TookTurns service s old (n + 1) left new
one_more_turn service s between left old mid new n turns own =
    subst (λ (m : ℕ). TookTurns service s old m left new) (sym (add-one n)) (record {
      acts = turns.acts ++ own.acts;
      turns = one_more turns.turns own.turn;
      once = once_in service old.acts mid.acts turns.acts own.acts between left own.event own.bytes turns.goes.tells turns.once own.fresh
          own.turn;
      goes = Goes-more old mid new turns.acts own.acts turns.goes own.goes;
    })

-- ---- the end

-- acts and the last event open nothing again
once_over : (old : Option (List Act)) (acts : List Act) → OpenOnceIn old acts → OpenOnceIn old (acts ++ (Gave Over [] ∷ []))
once_over None acts once = tt
once_over (Some first) acts once = OpensOnce-more acts (Gave Over []) once tt

-- the last event came
pub served_over : (service : Service) (limit : ℕ) (s between left : State) (old mid new : HubSeen) (n : ℕ) →
    TookTurns service s old n between mid → n < limit → left ≡ between → Goes mid new (Gave Over [] ∷ []) →
    Served service limit s old why.Over left new
served_over service limit s between left old mid new n turns less is goes =
    let all = Goes-more old mid new turns.acts (Gave Over [] ∷ []) turns.goes goes in
    record {
      n = n;
      over = true;
      acts = turns.acts ++ (Gave Over [] ∷ []);
      run = record {
        turned = turns.acts;
        turns = subst (λ (x : State). Turns service s n turns.acts x) (sym is) turns.turns;
        acts_are =
            refl;
      };
      tells = all.tells;
      once = once_over old.acts turns.acts turns.once;
      ends = (less, refl, all.faults);
    }

-- all turns are spent
pub served_all : (service : Service) (limit : ℕ) (s left : State) (old new : HubSeen) (n : ℕ) → TookTurns service s old n left new →
    n ≡ limit → Served service limit s old why.TurnsSpent left new
served_all service limit s left old new n turns is = record {
  n = n;
  over = false;
  acts = turns.acts;
  run = record { turned = turns.acts; turns = turns.turns; acts_are = sym (append-nil turns.acts) };
  tells = turns.goes.tells;
  once = turns.once;
  ends = (is, refl, turns.goes.faults);
}

-- the hub failed to give an event
pub served_fault : (service : Service) (limit : ℕ) (s between left : State) (old mid new : HubSeen) (n : ℕ) →
    TookTurns service s old n between mid → n < limit → left ≡ between → Tells mid.acts new.acts [] → CountRose mid.faults new.faults →
    Served service limit s old why.HubFault left new
served_fault service limit s between left old mid new n turns less is tells rose = record {
  n = n;
  over = false;
  acts = turns.acts;
  run = record {
    turned = turns.acts;
    turns = subst (λ (x : State). Turns service s n turns.acts x) (sym is) turns.turns;
    acts_are =
        sym (append-nil turns.acts);
  };
  tells =
      subst (λ (xs : List Act). Tells old.acts new.acts xs) (append-nil turns.acts)
      (Tells-more old.acts mid.acts new.acts turns.acts [] turns.goes.tells tells);
  once = turns.once;
  ends = (less, refl, subst (λ (m : ℕ). CountRose m new.faults) turns.goes.faults rose);
}

-- why it ended, by the turn that ended it
pub served_end : (service : Service) (limit : ℕ) (s between left : State) (old mid new : HubSeen) (n : ℕ) (end : ServeEnd) →
    TookTurns service s old n between mid → n < limit → TurnComesTo service between mid (Some end) left new →
    Served service limit s old end left new
served_end service limit s between left old mid new n why.Over turns less takes =
    served_over service limit s between left old mid new n turns less takes.0 takes.1
served_end service limit s between left old mid new n why.TurnsSpent turns less takes = absurd takes
served_end service limit s between left old mid new n why.HubFault turns less takes =
    served_fault service limit s between left old mid new n turns less takes.0 takes.1 takes.2
