-- Runs of a search space: a start's number and then the numbers of steps, with the sum of the costs.
-- This project's own rule.
use Rattle.std.specs.Prelude.{ℕ, ◌≡◌, ◌<◌, ◌≤◌, ◌+◌, IsTrue, Some, List, [], ◌∷◌}
use Rattle.space_search.specs.Rules.{Rules}

-- from a state, reached at a cost, these steps lead to the state `end`, and all together costs `total`
pub data Walks {S : Type 0} (rules : Rules S) : S → ℕ → List ℕ → S → ℕ → Type 0 where
  rests : {state : S} {cost : ℕ} → Walks rules state cost [] state cost
  steps :
      {state next end : S} {cost more total number : ℕ} {numbers : List ℕ} →
      number < rules.steps state → rules.step state number ≡ Some (next, more) →
      Walks rules next (cost + more) numbers end total →
      Walks rules state cost (number ∷ numbers) end total

-- these choices, a start's number and then the steps' numbers, are permitted, lead to the state `end`,
-- and cost `total`
pub data IsRun {S : Type 0} (rules : Rules S) : List ℕ → S → ℕ → Type 0 where
  starts :
      {state end : S} {cost total number : ℕ} {numbers : List ℕ} →
      number < rules.starts → rules.start number ≡ Some (state, cost) →
      Walks rules state cost numbers end total →
      IsRun rules (number ∷ numbers) end total

-- these choices are a run that reaches a goal at this cost
pub record Reaches {S : Type 0} (rules : Rules S) (choices : List ℕ) (cost : ℕ) : Type 0 where
  pub end : S
  pub run : IsRun rules choices end cost
  pub goal : IsTrue (rules.is_goal end)

-- these choices are a run that reaches a goal at this cost, and no run that reaches a goal costs less
pub record IsLeastRun {S : Type 0} (rules : Rules S) (choices : List ℕ) (cost : ℕ) : Type 0 where
  pub reaches : Reaches rules choices cost
  pub least : (others : List ℕ) (other : ℕ) → Reaches rules others other → cost ≤ other

-- no run reaches a goal
abbrev pub IsUnreachable : {S : Type 0} → Rules S → Type 0
IsUnreachable rules = (choices : List ℕ) (cost : ℕ) → Reaches rules choices cost → ⊥
