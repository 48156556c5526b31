-- How long the value at the front of steps is (this project's own rule).
use Rattle.std.specs.Prelude.{◌≡◌, ℕ, suc, Bool, true, false, List, [], ◌∷◌}
use Rattle.json_text.specs.declared.step.JsonStep.{JsonStep}
use Rattle.json_text.specs.Marks.{Step}
use Rattle.json_text.specs.Steps.{step_for}
use Rattle.map_elements.specs.Entries.{depth_after, by_depth}

-- how many steps belong to a value, as far as they have come, of which so many brackets are open
abbrev pub size_of : ℕ → List Step → ℕ
size_of depth [] = 0
size_of depth (step ∷ steps) = by_depth (depth_after depth step) 1 (λ still. suc (size_of still steps))

-- whether the last of them has come
abbrev pub ends_in : ℕ → List Step → Bool
ends_in depth [] = false
ends_in depth (step ∷ steps) = by_depth (depth_after depth step) true (λ still. ends_in still steps)

-- the steps don't begin with the name of a member
abbrev pub IsNoKey : List Step → Type 0
IsNoKey [] = Unit {0}
IsNoKey (Step.Key text ∷ steps) = ⊥
IsNoKey (step ∷ steps) = Unit {0}

-- the step closes a bracket
abbrev pub is_close : Step → Bool
is_close (Step.Closes bracket) = true
is_close step = false

-- no step is there
abbrev pub has_none : List Step → Bool
has_none [] = true
has_none (step ∷ steps) = false

-- this step, whatever its content, stands at the front of steps, and these behind it
pub record IsBefore (step : JsonStep) (steps behind : List Step) : Type 0 where
  pub text : List ℕ
  pub is : steps ≡ step_for step text ∷ behind

-- a number stands at the front of steps, alone in this value, and these behind it
pub record IsNumberBefore (value steps behind : List Step) : Type 0 where
  pub text : List ℕ
  pub alone : value ≡ Step.Number text ∷ []
  pub is : steps ≡ Step.Number text ∷ behind

-- this step, whatever its content, stands at the front of steps
pub record BeginsWith (step : JsonStep) (steps : List Step) : Type 0 where
  pub rest : List Step
  pub before : IsBefore step steps rest
