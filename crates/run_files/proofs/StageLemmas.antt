-- What a file that is asked for comes to, and what follows for the stages that read it.
use Rattle.std.proofs.Common.{◌≡◌, ℕ, inl, inr, Bool, true, false, Result, Ok, Err, List, refl, sym, subst}
use Rattle.command_words.specs.Given.{Named}
use Rattle.edge_io.specs.Files.{FailsToOpen, FilesSeen, Opens}
use Rattle.edge_io.specs.Whole.{ReadsBytes}
use Rattle.item_list.specs.Answer.{Answers}
use Rattle.run_files.specs.Chain.{GoesOn, seen_as, Settles, Stage, StageOver, Then}
use Rattle.run_files.specs.File.{Asks}
use Rattle.run_files.specs.File.{Asks as asks}
use Rattle.run_files.specs.declared.status.Status.{Status}
use Rattle.run_files.specs.declared.status.Status.TheVariants.{NotFound, ReadFault, NoMemory}

-- ---- One file

module _ {A : Type 0} (file : Named) (limit : ℕ) (Is : List ℕ → Stage A) (old : FilesSeen)
  where
    -- a failed opening is a read fault
    pub asked-failed : (new : FilesSeen) (word : ℕ) → word ≡ file.word → FailsToOpen old new →
        Asks file limit Is old new (Err (ReadFault word))
    asked-failed new word named fails =
        subst (λ (w : ℕ). Asks file limit Is old new (Err (ReadFault w))) (sym named) (asks.failed fails)

    -- an opening that found no file of the name is told so
    pub asked-missing : (new : FilesSeen) (name : List ℕ) (word : ℕ) (found : Bool) → name ≡ file.name → word ≡ file.word → found ≡ false →
        Opens old new name found → Asks file limit Is old new (Err (NotFound word))
    asked-missing new name word found is named none opens =
        subst (λ (w : ℕ). Asks file limit Is old new (Err (NotFound w))) (sym named)
        (asks.missing (subst (λ (b : Bool). Opens old new file.name b) none (subst (λ (n : List ℕ). Opens old new n found) is opens)))

    -- a file that was opened, and of which these bytes were read, is answered so
    pub asked-read : (mid new : FilesSeen) (bytes name : List ℕ) (found : Bool) (result : Result A Status) → name ≡ file.name →
        found ≡ true → Opens old mid name found → ReadsBytes limit mid new bytes → Is bytes mid new result →
        Asks file limit Is old new result
    asked-read mid new bytes name found result is some opens reads answer =
        asks.reading (subst (λ (b : Bool). Opens old mid file.name b) some (subst (λ (n : List ℕ). Opens old mid n found) is opens))
        reads answer

-- ---- Two stages

-- a refusal of the first of two stages is the answer
pub then-stops : {S A B : Type 0} (first : StageOver S A) (second : A → StageOver S B)
    (old new : S) (result : Result B Status) (status : Status) → first old new (Err status) → result ≡ Err status →
    Then first second old new result
then-stops first second old new result status refused is = inl (record { status = status; refused = refused; answer = is })

-- the second of two stages goes on where the first gave a value
pub then-goes : {S A B : Type 0} (first : StageOver S A) (second : A → StageOver S B)
    (old mid new : S) (result : Result B Status) (value : A) → first old mid (Ok value) → second value mid new result →
    Then first second old new result
then-goes first second old mid new result value given rest = inr (record { value = value; between = mid; given = given; rest = rest })

-- two stages that gave a value: the first gave one, with which the second went on
pub then-given : {S A B : Type 0} (first : StageOver S A) (second : A → StageOver S B) (old new : S) (value : B) →
    Then first second old new (Ok value) →
    GoesOn first second old new (Ok value)
then-given first second old new value (inl stops) = let is = stops.answer in cc
then-given first second old new value (inr goes) = goes

-- a call that touches no file settles the answer, seen so
pub settles : {S A B : Type 0} (view : A → B) (answer : Result B Status) (seen : S) (result : Result A Status) →
    Answers view answer NoMemory result → Settles answer seen seen (seen_as view result)
settles view answer seen (Ok a) gives = record { gives = gives; same = refl }
settles view answer seen (Err status) gives = record { gives = gives; same = refl }
