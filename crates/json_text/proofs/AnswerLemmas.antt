-- What was told, as the caller sees it.
use Rattle.std.proofs.Common.{◌≡◌, ℕ, Bool, false, List, [], ◌∷◌, ◌++◌, sym, ap, ◌∙◌, subst, append_assoc}
use Rattle.json_text.specs.declared.step.JsonAnswer.{JsonAnswer}
use Rattle.json_text.specs.declared.step.JsonAnswer.TheVariants as answer_
use Rattle.json_text.specs.declared.scanner.Scanner.{Scanner}
use Rattle.json_text.specs.Marks.{Begins, Step}
use Rattle.json_text.specs.Reading.{Verdict, Reads, AreFixed}
use Rattle.json_text.specs.Scanner.{Answers, Holds, content}
use Rattle.json_text.specs.Steps.{step_for}
use Rattle.json_text.specs.Told.{Told}
use Rattle.json_text.proofs.Verdicts.{unique}
use Rattle.json_text.proofs.Lists.{no_cons, nothing_more}
use Rattle.json_text.proofs.HoldLemmas.{holds_fixed}
use Rattle.json_text.proofs.ScannerLemmas.{IsAlike, alike_holds}

-- what was told is the answer
pub told_answers : (mid new : Scanner) (bytes : List ℕ) (ended : Bool) (steps : List Step) (answer : JsonAnswer) → IsAlike mid new →
    mid.ended ≡ ended → new.failed ≡ false
    → Told answer mid bytes steps → Answers answer new bytes ended steps
told_answers mid new bytes ended steps (answer_.Step step) a t f h =
    let k : Holds new bytes (steps ++ (step_for step (content new) ∷ [])) =
    alike_holds mid new bytes (steps ++ (step_for step (content new) ∷ [])) a
    (subst (λ m. Holds mid bytes (steps ++ (step_for step m.text.items ∷ []))) (sym a.machine) h) in
    record {
      stands = record { holds = k; ended_is = a.ended ∙ t; works = f };
      fixed = subst (λ z. AreFixed bytes z (steps ++ (step_for step (content new) ∷ []))) (a.ended ∙ t)
          (holds_fixed new bytes (steps ++ (step_for step (content new) ∷ [])) k);
    }
told_answers mid new bytes ended steps (answer_.Verdict said) a t f (h, r) = record {
  stands = record { holds = alike_holds mid new bytes steps a h; ended_is = a.ended ∙ t; works = f };
  reads = subst (λ z. Reads bytes z steps said) t r;
}

-- where all fixed steps were given, the verdict is told
pub told_exact : (mid : Scanner) (bytes : List ℕ) (ended : Bool) (steps : List Step) (answer : JsonAnswer) (verdict : Verdict) →
    mid.ended ≡ ended
    → Told answer mid bytes steps → Reads bytes ended steps verdict → answer ≡ answer_.Verdict verdict
told_exact mid bytes ended steps (answer_.Step step) verdict t h r =
    let given = step_for step (content mid) in
    let g : Begins (steps ++ (given ∷ [])) steps =
    holds_fixed mid bytes (steps ++ (given ∷ [])) h steps verdict (subst (λ z. Reads bytes z steps verdict) (sym t) r) in
    absurd (no_cons (sym (nothing_more steps (given ∷ g.rest) (g.same ∙ append_assoc steps (given ∷ []) g.rest))))
told_exact mid bytes ended steps (answer_.Verdict said) verdict t (h, r) q =
    ap answer_.Verdict (sym (unique bytes ended steps steps verdict said q (subst (λ z. Reads bytes z steps said) t r)).1)
