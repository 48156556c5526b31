-- What the crates above cite of answers and of texts that grow.
use Rattle.std.proofs.Common.{◌≡◌, ℕ, ◌+◌, List, [], ◌∷◌, ◌++◌, length, take, sym, ap, ◌∙◌, Result, Ok, Err, OnErr, append_assoc}
use Rattle.std.proofs.Math.Seq.{take-append_seam, take-append-add}
use Rattle.std.proofs.lemmas.List.{append-nil}
use Rattle.std.proofs.lemmas.Result.{on_err_weaker}
use Rattle.item_list.specs.Answer.{and_then}
use Rattle.item_list.specs.Appended.{EndsWithFront}

-- ---- Answers

-- after a value the next step is asked of it
pub and_then-ok : {A B E : Type 0} (answer : Result A E) (go : A → Result B E) (a : A) → answer ≡ Ok a → and_then answer go ≡ go a
and_then-ok answer go a is = ap (λ r. and_then r go) is

-- a refusal is the end
pub and_then-err : {A B E : Type 0} (answer : Result A E) (go : A → Result B E) (e : E) → answer ≡ Err e → and_then answer go ≡ Err e
and_then-err answer go e is = ap (λ r. and_then r go) is

-- ---- Texts that grow

-- where nothing was appended, a front of anything was
pub EndsWithFront-none : (old bytes new : List ℕ) → new ≡ old → EndsWithFront old bytes new
EndsWithFront-none old [] new same = record { taken = 0; held = same ∙ sym (append-nil old) }
EndsWithFront-none old (b ∷ bytes) new same = record { taken = 0; held = same ∙ sym (append-nil old) }

-- where the first bytes were appended whole, they are a front of all
pub EndsWithFront-first : (old first more new : List ℕ) → new ≡ old ++ first → EndsWithFront old (first ++ more) new
EndsWithFront-first old first more new held = record {
  taken = length first;
  held = held ∙ ap (λ bytes. old ++ bytes) (sym (take-append_seam first more));
}

-- where the first bytes were appended whole and then a front of more, that is a front of all
pub EndsWithFront-then : (old first more mid new : List ℕ) → mid ≡ old ++ first → EndsWithFront mid more new →
    EndsWithFront old (first ++ more) new
EndsWithFront-then old first more mid new held front = record {
  taken = length first + front.taken;
  held = front.held ∙ ap (λ bytes. bytes ++ take front.taken more) held
      ∙ append_assoc old first (take front.taken more)
      ∙ ap (λ bytes. old ++ bytes) (sym (take-append-add first more front.taken));
}

-- the same, where a call that appends the next bytes met want of memory and appended nothing
pub EndsWithFront-call : {T E : Type 0} (result : Result T E) (old first more mid new : List ℕ) → mid ≡ old ++ first →
    OnErr result (new ≡ mid) → OnErr result (EndsWithFront old (first ++ more) new)
EndsWithFront-call result old first more mid new held same =
    on_err_weaker result (λ (e : new ≡ mid). EndsWithFront-first old first more new (e ∙ held)) same
