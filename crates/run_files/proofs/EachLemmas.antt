-- Files that are taken in one after the other.
use Rattle.std.proofs.Common.{◌≡◌, ℕ, List, [], ◌∷◌, ◌++◌, Result, Ok, Err, ◌+◌, ◌<◌, zero, suc, length, drop, slice_index_or, arith, refl, sym, ap, ◌∙◌, subst}
use Rattle.command_words.specs.Given.{Named}
use Rattle.run_files.proofs.StageLemmas.{then-goes, then-stops}
use Rattle.run_files.specs.Chain.{StageOver, TakesEach, TakesEachAfter}
use Rattle.run_files.specs.declared.status.Status.{Status}

-- what is left at a place begins with what stands there
pub left_at : {A : Type 0} (xs : List A) (i : ℕ) (x : A) → i < length xs → x ≡ slice_index_or xs i x → drop i xs ≡ x ∷ drop (i + 1) xs
left_at [] i x below read = absurd (omega arith)
left_at (y ∷ ys) zero x below read = ap (λ z. z ∷ ys) (sym read)
left_at (y ∷ ys) (suc i) x below read =
    let place : suc i + 1 ≡ suc (i + 1) = omega arith in
    left_at ys i x (omega arith) read ∙ ap (λ n. x ∷ drop n (y ∷ ys)) (sym place)

-- what comes of the files from here on comes of all
abbrev pub GoesFor : {S A : Type 0} (stage : Named →
    StageOver S A) (all : List Named) (old : S) (before : List A) (more : List Named) (mid : S) → Type 0
GoesFor {S} {A} stage all old before more mid =
    (new : S) (r : Result (List A) Status) → TakesEachAfter stage before more mid new r → TakesEach stage all old new r

-- one more of them, by the file that stands at a place
pub at-more : {S A : Type 0} (stage : Named →
    StageOver S A) (all : List Named) (old : S) (before : List A) (i : ℕ) (file : Named) (mid new : S) (one : A) →
    i < length all → file ≡ slice_index_or all i file → GoesFor stage all old before (drop i all) mid → stage file mid new (Ok one) →
    GoesFor stage all old (before ++ one ∷ []) (drop (i + 1) all) new
at-more stage all old before i file mid new one below is goes taken = λ last r next.
    subst (λ (more : List Named). GoesFor stage all old before more mid) (left_at all i file below is) goes last r
    (then-goes (stage file) (λ x. TakesEachAfter stage (before ++ x ∷ []) (drop (i + 1) all)) mid new last r one taken next)

-- one that is refused
pub at-refused : {S A : Type 0} (stage : Named →
    StageOver S A) (all : List Named) (old : S) (before : List A) (i : ℕ) (file : Named) (mid new : S) (status : Status) →
    i < length all → file ≡ slice_index_or all i file → GoesFor stage all old before (drop i all) mid → stage file mid new (Err status) →
    TakesEach stage all old new (Err status)
at-refused stage all old before i file mid new status below is goes refused =
    subst (λ (more : List Named). GoesFor stage all old before more mid) (left_at all i file below is) goes new (Err status)
    (then-stops (stage file) (λ x. TakesEachAfter stage (before ++ x ∷ []) (drop (i + 1) all)) mid new (Err status) status refused refl)

-- no more of them
pub goes-end : {S A : Type 0} (stage : Named → StageOver S A) (all : List Named) (old : S) (before : List A) (mid : S) →
    GoesFor stage all old before [] mid → TakesEach stage all old mid (Ok before)
goes-end stage all old before mid goes = goes mid (Ok before) (record { gives = refl; same = refl })
