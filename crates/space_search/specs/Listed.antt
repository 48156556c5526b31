-- The permitted steps of a state, as a list. This project's own rule.
use Rattle.std.specs.Prelude.{ℕ, suc, zero, Option, Some, None, List, [], ◌∷◌, ◌++◌}
use Rattle.space_search.specs.Rules.{Rules}
use Rattle.space_search.specs.declared.step.Step.{Step}

-- the step of a number, where it is permitted, by what it reaches and costs
abbrev pub listed : {S : Type 0} → ℕ → Option (S × ℕ) → List (Step S)
listed number None = []
listed number (Some found) = record { choice = number; state = found.0; cost = found.1 } ∷ []

-- the permitted ones of the steps below a number, in the order of their numbers
unfoldable pub listed_below : {S : Type 0} → (ℕ → Option (S × ℕ)) → ℕ → List (Step S)
listed_below step zero = []
listed_below step (suc number) = listed_below step number ++ listed number (step number)

-- all permitted steps of a state
abbrev pub steps_of : {S : Type 0} → Rules S → S → List (Step S)
steps_of rules state = listed_below (rules.step state) (rules.steps state)
