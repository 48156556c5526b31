-- Stages, one after the other, each over what the one before left. This project's own rule.
use Rattle.std.specs.Prelude.{◌≡◌, ◌⊎◌, ℕ, List, [], ◌∷◌, ◌++◌, Result, Ok, Err, Vec}
use Rattle.std.specs.declared.alloc.Global.{Global}
use Rattle.command_words.specs.Given.{Named}
use Rattle.edge_io.specs.Files.{FilesSeen}
use Rattle.item_list.specs.Answer.{Answers, answer_map}
use Rattle.run_files.specs.declared.status.Status.{Status}
use Rattle.run_files.specs.declared.status.Status.TheVariants.{NoMemory}

-- a stage: what it does to what it goes over, from what that was to what it is, and what it answers
abbrev pub StageOver : Type 0 → Type 0 → Type 1
StageOver S A = S → S → Result A Status → Type 0

-- a stage over files
abbrev pub Stage : Type 0 → Type 1
Stage A = StageOver FilesSeen A

-- an answer, its value seen so
abbrev pub seen_as : {A B : Type 0} → (A → B) → Result A Status → Result B Status
seen_as view answer = answer_map view (λ (s : Status). s) answer

-- an answer with its bytes as a list
abbrev pub bytes_in : Result (Vec ℕ Global) Status → Result (List ℕ) Status
bytes_in answer = seen_as (λ (v : Vec ℕ Global). v.items) answer

-- a stage that touches nothing gives this answer, or reports want of memory
pub record Settles {S A : Type 0} (answer : Result A Status) (old new : S) (result : Result A Status) :
    Type 0 where
  pub gives : Answers (λ (a : A). a) answer NoMemory result
  pub same : new ≡ old

-- a stage that touches nothing, with an answer of which this holds
abbrev pub Leaves : {S A : Type 0} → (Result A Status → Type 0) → StageOver S A
Leaves Is old new result = Is result × (new ≡ old)

-- the first of two stages refuses, and that is the answer of both
pub record Stops {S A B : Type 0} (first : StageOver S A) (old new : S) (result : Result B Status) :
    Type 0 where
  pub status : Status
  pub refused : first old new (Err status)
  pub answer : result ≡ Err status

-- the first of two stages gives a value, and the second goes on with it
pub record GoesOn {S A B : Type 0} (first : StageOver S A) (second : A →
    StageOver S B) (old new : S) (result : Result B Status) : Type 0 where
  pub value : A
  pub between : S
  pub given : first old between (Ok value)
  pub rest : second value between new result

-- two stages, one after the other
abbrev pub Then : {S A B : Type 0} → StageOver S A → (A → StageOver S B) → StageOver S B
Then first second old new result = Stops first old new result ⊎ GoesOn first second old new result

-- files are taken in one after the other, each by its stage, behind what was taken in before them
abbrev pub TakesEachAfter : {S A : Type 0} → (Named → StageOver S A) → List A → List Named → StageOver S (List A)
TakesEachAfter stage before [] old new result = Settles (Ok before) old new result
TakesEachAfter stage before (file ∷ more) old new result =
    Then (stage file) (λ one. TakesEachAfter stage (before ++ one ∷ []) more) old new result

-- files are taken in one after the other, each by its stage
abbrev pub TakesEach : {S A : Type 0} → (Named → StageOver S A) → List Named → StageOver S (List A)
TakesEach stage files = TakesEachAfter stage [] files
