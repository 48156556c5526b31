-- The steps of the code as the definitions know them.
use Rattle.std.specs.Prelude.{ℕ, List, ◌≡◌}
use Rattle.json_text.specs.declared.mode.Bracket.TheVariants as bracket_
use Rattle.json_text.specs.declared.step.JsonStep.{JsonStep}
use Rattle.json_text.specs.declared.step.JsonStep.TheVariants as step_
use Rattle.json_text.specs.Marks.{Yes, No, Null, Step}

-- a step of the code beside its content
abbrev pub step_for : JsonStep → List ℕ → Step
step_for step_.Open text = Step.Opens bracket_.Curly
step_for step_.Close text = Step.Closes bracket_.Curly
step_for step_.ListOpen text = Step.Opens bracket_.Square
step_for step_.ListClose text = Step.Closes bracket_.Square
step_for step_.Key text = Step.Key text
step_for step_.Text text = Step.Text text
step_for step_.Number text = Step.Number text
step_for step_.True text = Step.Word Yes
step_for step_.False text = Step.Word No
step_for step_.Null text = Step.Word Null

-- a step with content takes the place of the last content, another leaves it
abbrev pub KeepsBeside : JsonStep → List ℕ → List ℕ → Type 0
KeepsBeside step_.Key old new = Unit {0}
KeepsBeside step_.Text old new = Unit {0}
KeepsBeside step_.Number old new = Unit {0}
KeepsBeside _ old new = new ≡ old
