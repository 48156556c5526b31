-- What lengths add up to (this project's own rule).
use Rattle.std.specs.Prelude.{ℕ, List}
use Rattle.std.specs.List.{sum_by}
use Rattle.cost_model.specs.declared.facts.LinkFacts.{LinkFacts}
use Rattle.track_legs.specs.declared.row.Row.{Row}

-- the lengths of the links of all rows, in millimetres
unfoldable pub total_length : (ℕ → LinkFacts) → List Row → ℕ
total_length facts rows = sum_by (λ row. (facts row.link).arrow.len) rows
