-- No search went on for ever in a run: the law of all runs, said of the turns of one.
use Rattle.std.proofs.Common.{◌≡◌, ◌+◌, ℕ, suc, List, [], ◌++◌, inl, inr, refl, sym, subst, arith}
use Rattle.edge_io.specs.Acts.{Act}
use Rattle.hall.specs.State.{Connection, Service, State, empty_hall}
use Rattle.hall.specs.Turns.Turns.{none, more}
use Rattle.hall.specs.Turns.{Turns}
use Rattle.hall.specs.Waiting.{EndedEachWait, EndedSince, EndsAmong, EndsEachWait, HeldAfter}
use Rattle.session_answers.specs.Stored.{Stored}

-- turns are so many first ones and those that follow; a wait that ends among these ended behind the first
record IsSplit (service : Service) (s new : State) (n : ℕ) (acts : List Act) (turns : Turns service s n acts new) (k : ℕ)
    (state : State) : Type 0 where
  m : ℕ
  m_is : k + m ≡ n
  first : List Act
  before : Turns service s k first state
  rest : List Act
  after : Turns service state m rest new
  ends : (id : ℕ) (c : Connection) → EndsAmong service state id c m rest new after → EndedSince id c k turns

-- turns are split at each state that the hall held
split : (service : Service) (s new : State) (n : ℕ) (acts : List Act) (turns : Turns service s n acts new) (k : ℕ) (state : State) →
    HeldAfter turns k state → IsSplit service s new n acts turns k state
split service s new n acts none k state is =
    let start : IsSplit service s s 0 [] none 0 s =
    record { m = 0; m_is = refl; first = []; before = none; rest = []; after = none; ends = λ id c e. absurd e } in
    subst (λ (j : ℕ). IsSplit service s s 0 [] none j state) (sym is.0)
    (subst (λ (x : State). IsSplit service s s 0 [] none 0 x) (sym is.1) start)
split service s new n acts (more {n = made} {acts = early} {own} {between} {event} {bytes} turns turn) k state (inl is) =
    let parts = split service s between made early turns k state is in
    record {
      m = suc parts.m;
      m_is = omega (arith, parts.m_is);
      first = parts.first;
      before = parts.before;
      rest = parts.rest ++ own;
      after = more parts.after turn;
      ends = λ id c e. elim e [
        | inl earlier ↦ inl (parts.ends id c earlier)
        | inr now ↦ inr (omega (arith, parts.m_is), now)
      ];
    }
split service s new n acts (more {n = made} {acts = early} {own} {between} {event} {bytes} turns turn) k state (inr is) =
    let end : IsSplit service s new (suc made) (early ++ own) (more turns turn) (suc made) new =
    record {
      m = 0;
      m_is = omega arith;
      first = early ++ own;
      before = more turns turn;
      rest = [];
      after = none;
      ends = λ id c e. absurd e;
    } in
    subst (λ (j : ℕ). IsSplit service s new (suc made) (early ++ own) (more turns turn) j state) (sym is.0)
    (subst (λ (x : State). IsSplit service s new (suc made) (early ++ own) (more turns turn) (suc made) x) (sym is.1) end)

-- in turns from a hall without connections no search went on for ever
pub ended_each_wait : (service : Service) (given : List Stored) (new : State) (n : ℕ) (acts : List Act)
    (turns : Turns service (empty_hall given) n acts new) → EndsEachWait service → EndedEachWait turns
ended_each_wait service given new n acts turns law k state is id due c known phase =
    let parts = split service (empty_hall given) new n acts turns k state is in
    let waits = law given k parts.first state parts.before id due c known phase in
    record {
      aim = waits.aim;
      asked = waits.asked;
      asks = waits.asks;
      ended = λ enough.
          parts.ends id c (waits.ends parts.m parts.rest new parts.after (omega (arith, parts.m_is, enough)));
    }
