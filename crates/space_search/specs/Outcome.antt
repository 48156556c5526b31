-- What a whole search answers. This project's own rule.
use Rattle.std.specs.Prelude.{ℕ, ◌+◌, ◌≤◌, List, length}
use Rattle.space_search.specs.Ends.{Ends}
use Rattle.space_search.specs.Rules.{Rules}
use Rattle.space_search.specs.Runs.{IsLeastRun, IsUnreachable}
use Rattle.space_search.specs.Turns.{IsSpent}
use Rattle.space_search.specs.View.{Reached}
use Rattle.space_search.specs.declared.outcome.Outcome.{Outcome}
use Rattle.space_search.specs.declared.outcome.Run.{Run}

-- a found run is a least one, with its cost and with at most one choice more than the limit; that there is
-- no way means that no run reaches a goal; and a spent limit has its evidence
abbrev pub Answers : {S : Type 0} → Rules S → ℕ → Outcome Run → Type 0
Answers {S} rules limit =
    Ends (λ run. IsLeastRun rules run.choices run.cost × (length run.choices ≤ limit + 1))
    (IsUnreachable rules)
    ((shown : List (Reached S)) × IsSpent rules limit shown)
