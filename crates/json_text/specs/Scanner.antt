-- What a scanner stands for: the bytes fed to it, whether the end was said, and the steps that it gave.
use Rattle.std.specs.Prelude.{ℕ, ◌+◌, ◌-◌, ◌*◌, ◌<◌, List, [], ◌∷◌, ◌++◌, ◌≡◌, Bool, false, if◌then◌else◌, length, drop, vec_len}
use Rattle.json_text.specs.declared.mode.Mode.{Mode}
use Rattle.json_text.specs.declared.mode.Mode.TheVariants as mode_
use Rattle.json_text.specs.declared.step.JsonAnswer.{JsonAnswer}
use Rattle.json_text.specs.declared.step.JsonAnswer.TheVariants as answer_
use Rattle.json_text.specs.declared.scanner.Scanner.{Scanner}
use Rattle.json_text.specs.Marks.{Symbol, End, Step, Mark, symbols_of, steps_of, symbols}
use Rattle.json_text.specs.Reading.{Verdict, Reads, AreFixed}
use Rattle.json_text.specs.Rest.{IsFrontOf, first_of}
use Rattle.json_text.specs.Steps.{step_for, KeepsBeside}
use Rattle.json_text.specs.Taking.{kept_of}

-- how many bytes were fed
abbrev pub fed : Scanner → ℕ
fed scanner = scanner.before + vec_len scanner.input

-- whether the end was said
abbrev pub has_ended : Scanner → Bool
has_ended scanner = scanner.ended

-- whether memory was wanting, so that every call answers so from then on
abbrev pub has_failed : Scanner → Bool
has_failed scanner = scanner.failed

-- the content of the last name, text or number
abbrev pub content : Scanner → List ℕ
content scanner = scanner.machine.text.items

-- the bytes that are still to be scanned
abbrev pub pending : Scanner → List ℕ
pending scanner = drop scanner.read scanner.input.items

-- what is still to be scanned, with the end where it was said
abbrev pub symbols_left : Scanner → List Symbol
symbols_left scanner = symbols (pending scanner) ++ (if scanner.ended then End ∷ [] else [])

-- a number is read
abbrev pub is_number : Mode → ℕ
is_number (mode_.Number part) = 1
is_number _ = 0

-- more steps than so many don't come before more is fed
abbrev pub most_steps : Scanner → ℕ
most_steps scanner = 2 * (vec_len scanner.input - scanner.read) + is_number scanner.machine.mode

-- the bytes are those that were scanned and those that are pending. The scanned ones are a front's, whose
-- steps were given, and the scanner's place is behind it
pub record Holds (scanner : Scanner) (bytes : List ℕ) (steps : List Step) : Type 0 where
  pub front : List Mark
  pub given : steps_of front ≡ steps
  pub split : symbols bytes ≡ symbols_of front ++ symbols (pending scanner)
  pub count : length bytes ≡ fed scanner
  pub is_front : IsFrontOf front (first_of (symbols_left scanner)) scanner.machine.mode
      (kept_of scanner.machine)

-- the scanner works, and stands for these bytes, the end or not, and these steps
pub record Stands (scanner : Scanner) (bytes : List ℕ) (ended : Bool) (steps : List Step) : Type 0 where
  pub holds : Holds scanner bytes steps
  pub ended_is : has_ended scanner ≡ ended
  pub works : has_failed scanner ≡ false

-- the scanner gave one more step, and all its steps are fixed
pub record GaveStep (step : Step) (new : Scanner) (bytes : List ℕ) (ended : Bool) (steps : List Step) :
    Type 0 where
  pub stands : Stands new bytes ended (steps ++ (step ∷ []))
  pub fixed : AreFixed bytes ended (steps ++ (step ∷ []))

-- the scanner gave all fixed steps, and says what there is to say behind them
pub record GaveVerdict (verdict : Verdict) (new : Scanner) (bytes : List ℕ) (ended : Bool) (steps :
    List Step) : Type 0 where
  pub stands : Stands new bytes ended steps
  pub reads : Reads bytes ended steps verdict

-- what an answer says
abbrev pub Answers : (answer : JsonAnswer) (new : Scanner) (bytes : List ℕ) (ended : Bool)
    (steps : List Step) → Type 0
Answers (answer_.Step step) new = GaveStep (step_for step (content new)) new
Answers (answer_.Verdict verdict) new = GaveVerdict verdict new

-- an answer that is a step leaves fewer steps
abbrev pub IsNearer : JsonAnswer → Scanner → Scanner → Type 0
IsNearer (answer_.Step step) old new = most_steps new < most_steps old
IsNearer (answer_.Verdict verdict) old new = Unit {0}

-- the last content stays but where a step has content
abbrev pub KeepsContent : JsonAnswer → Scanner → Scanner → Type 0
KeepsContent (answer_.Step step) old new = KeepsBeside step (content old) (content new)
KeepsContent (answer_.Verdict verdict) old new = content new ≡ content old
