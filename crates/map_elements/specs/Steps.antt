-- Steps that are kept in rows beside their bytes (this project's own rule).
use Rattle.std.specs.Prelude.{ℕ, ◌+◌, ◌≤◌, List, [], ◌∷◌, length, map, take, drop}
use Rattle.json_text.specs.Marks.{Step}
use Rattle.json_text.specs.Steps.{step_for}
use Rattle.map_elements.specs.declared.steps.Row.{Row}

-- the content of a row among these bytes
abbrev pub content_in : List ℕ → Row → List ℕ
content_in bytes row = take row.length (drop row.start bytes)

-- the step of a row among these bytes
abbrev pub step_in : List ℕ → Row → Step
step_in bytes row = step_for row.step (content_in bytes row)

-- the steps of rows among these bytes
abbrev pub steps_in : List ℕ → List Row → List Step
steps_in bytes rows = map (step_in bytes) rows

-- the contents of rows stand among these bytes
abbrev pub AreWithin : List ℕ → List Row → Type 0
AreWithin bytes [] = Unit {0}
AreWithin bytes (row ∷ rows) = (row.start + row.length ≤ length bytes) × AreWithin bytes rows
