-- A text that is written in steps. This project's own rule.
use Rattle.std.specs.Prelude.{◌≡◌, ℕ, ◌+◌, ◌≤◌, List, Vec}
use Rattle.std.specs.declared.alloc.Global.{Global}
use Rattle.item_list.specs.Turns.{Says}
use Rattle.item_list.specs.declared.turn.Turn.{Turn}
use Rattle.tasks.specs.declared.steps.Stepped.{Stepped}

module _ {W : Type 0} (IsOn : W → Type 0) (comes_to : W → List ℕ) (left : W → ℕ) where
  -- a text begins so: it comes to these bytes, and something is left to spend on it, but no more than so much
  pub record IsBegun (most : ℕ) (bytes : List ℕ) (begun : W) : Type 0 where
    pub on : IsOn begun
    pub comes : comes_to begun ≡ bytes
    pub some : 1 ≤ left begun
    pub few : left begun ≤ most

  -- a text is begun, or its bytes are made in one piece
  abbrev pub BeginsText : (most : ℕ) (bytes : List ℕ) → Turn W (Vec ℕ Global) → Type 0
  BeginsText most bytes begun = Says (IsBegun most bytes) (λ whole. whole.items ≡ bytes) begun

  -- a text goes on as this behind a step that spent so much, which is something: it comes to the same bytes, with that
  -- much less to spend
  pub record WritesOn (spent : ℕ) (before after : W) : Type 0 where
    pub on : IsOn after
    pub same : comes_to after ≡ comes_to before
    pub some : 1 ≤ spent
    pub less : left after + spent ≤ left before

  -- a step spends no more than its budget, and the text goes on, or is written
  pub record StepsText (budget : ℕ) (before : W) (step : Stepped W (Vec ℕ Global)) : Type 0 where
    pub fits : step.spent ≤ budget
    pub turn : Says (WritesOn step.spent before) (λ whole. whole.items ≡ comes_to before) step.turn
