-- What a scanner tells while it works on a call, for the private clauses.
use Rattle.std.specs.Prelude.{ℕ, List, [], ◌∷◌, ◌++◌, ◌≡◌, ◌≤◌}
use Rattle.json_text.specs.declared.step.JsonAnswer.{JsonAnswer}
use Rattle.json_text.specs.declared.step.JsonAnswer.TheVariants as answer_
use Rattle.json_text.specs.declared.scanner.Scanner.{Scanner}
use Rattle.json_text.specs.Marks.{Step}
use Rattle.json_text.specs.Reading.{Reads}
use Rattle.json_text.specs.declared.mode.Part.{Part}
use Rattle.json_text.specs.Bytes.{kind_of}
use Rattle.json_text.specs.Rest.{part_after, OnPart}
use Rattle.json_text.specs.Scanner.{Holds, content, most_steps, fed, has_ended, has_failed}
use Rattle.json_text.specs.Steps.{step_for}

-- a step more was given, or the verdict told
abbrev pub Told : JsonAnswer → Scanner → List ℕ → List Step → Type 0
Told (answer_.Step step) new bytes steps = Holds new bytes (steps ++ (step_for step (content new) ∷ []))
Told (answer_.Verdict verdict) new bytes steps = Holds new bytes steps × Reads bytes new.ended steps verdict

-- what was fed, the end, the flag of failure and the last content are as they were
pub record Leaves (old new : Scanner) : Type 0 where
  pub fed_same : fed new ≡ fed old
  pub ended_same : has_ended new ≡ has_ended old
  pub failed_same : has_failed new ≡ has_failed old
  pub content_same : content new ≡ content old

-- what a scanner stood for it stands for, as far as it has read
pub record ReadsOn (old new : Scanner) : Type 0 where
  pub holds : (bytes : List ℕ) (steps : List Step) → Holds old bytes steps → Holds new bytes steps
  pub leaves : Leaves old new
  pub fewer : most_steps new ≤ most_steps old

-- a number goes on over these bytes from one part to another
abbrev pub PartsGo : Part → List ℕ → Part → Type 0
PartsGo part [] to = to ≡ part
PartsGo part (b ∷ bytes) to = OnPart (part_after part (kind_of b)) (λ next. PartsGo next bytes to)
