-- One connection changes, and the others stay.
use Rattle.std.proofs.Common.{◌≡◌, ◌≢◌, ◌==◌, ℕ, Bool, cond, List, [], ◌++◌, Option, Some, None, refl, sym, ◌∙◌, ap, append-nil}
use Rattle.std.proofs.lemmas.Bool.{eq-eqb, ne_eqb}
use Rattle.hall.specs.State.{Connection, State, changed, freed, left_as, put}
use Rattle.session_answers.specs.Stored.{Stored}

-- this is known of one connection now, the others are as they were, and so many more profiles are stored
pub record Changes (s new : State) (id : ℕ) (x : Option Connection) (added : List Stored) : Type 0 where
  pub here : new.known id ≡ x
  pub others : (j : ℕ) → j ≢ id → new.known j ≡ s.known j
  pub stored : new.stored ≡ s.stored ++ added

pub changes : (s new : State) (id : ℕ) (x : Option Connection) (added : List Stored) →
    new.known ≡ (λ (j : ℕ). cond (j == id) x (s.known j)) → new.stored ≡ s.stored ++ added → Changes s new id x added
changes s new id x added known stored = record {
  here = ap (λ (f : ℕ → Option Connection). f id) known ∙ ap (λ (b : Bool). cond b x (s.known id)) (eq-eqb id id refl);
  others = λ j ne.
      ap (λ (f : ℕ → Option Connection). f j) known ∙ ap (λ (b : Bool). cond b x (s.known j)) (ne_eqb j id ne);
  stored = stored;
}

-- this is known of a connection
pub changes_put : (s : State) (id : ℕ) (x : Option Connection) → Changes s (put s id x) id x []
changes_put s id x = changes s (put s id x) id x [] refl (sym (append-nil s.stored))

-- it changed to this, whoever waits besides
pub changes_now : (s : State) (ids : List ℕ) (id : ℕ) (now : Connection) (added : List Stored) →
    Changes s (changed (record s { waiting = ids }) id now added) id (Some now) added
changes_now s ids id now added = changes s (changed (record s { waiting = ids }) id now added) id (Some now) added refl refl

-- it is gone
pub changes_gone : (s : State) (id : ℕ) → Changes s (freed s id) id None []
changes_gone s id = changes s (freed s id) id None [] refl (sym (append-nil s.stored))

-- this is left of it
pub changes_left : (s : State) (id : ℕ) (left : Option Connection) → Changes s (left_as s id left) id left []
changes_left s id None = changes_gone s id
changes_left s id (Some now) = changes_put s id (Some now)

-- nothing changed
pub changes_none : (s : State) (id : ℕ) → Changes s s id (s.known id) []
changes_none s id = record { here = refl; others = λ j ne. refl; stored = sym (append-nil s.stored) }
