-- One more step of the text, or the verdict.
use Rattle.std.proofs.Common.{◌∷◌, ◌++◌, [], sym, subst, inl, inr}
use Rattle.json_text.specs.Scanner.{Answers, GaveStep}
use Rattle.json_text.specs.Steps.{step_for}
use Rattle.map_elements.proofs.ReadingLemmas.{bad_comes, fault_comes}
use Rattle.map_elements.proofs.reading.Reading.take_next.Goals as goal

-- all steps were read
pub returns-in-Ok-judged-clause-value : goal.returns-in-Ok-judged-clause-value
returns-in-Ok-judged-clause-value c limits bytes ended stands =
    let told = subst (λ a. Answers a c.next.new.self bytes ended stands.steps) c.in-Verdict.is
    (c.in-Ok.ensures.value bytes ended stands.steps stands.scanned) in
    record {
      stands = record { steps = stands.steps; scanned = told.stands; holds = stands.holds };
      verdict = c.in-Verdict.verdict;
      reads = told.reads;
      good = c.in-Ok-judged.ensures.value;
    }

-- a byte is at fault
pub returns-in-Err-judged-clause-value : goal.returns-in-Err-judged-clause-value
returns-in-Err-judged-clause-value c limits bytes ended stands =
    let told = subst (λ a. Answers a c.next.new.self bytes ended stands.steps) c.in-Verdict.is
    (c.in-Ok.ensures.value bytes ended stands.steps stands.scanned) in
    inr (bad_comes limits (record { scanner = c.next.new.self; progress = c.args.self.now.progress }) bytes ended c.in-Verdict.verdict
    c.in-Err-judged.e (record { steps = stands.steps; scanned = told.stands; holds = stands.holds }) told.reads
    c.in-Err-judged.ensures.value)

-- a step was taken
pub returns-in-Ok-take-clause-value : goal.returns-in-Ok-take-clause-value
returns-in-Ok-take-clause-value c limits bytes ended stands =
    let gave : GaveStep (step_for c.in-Step.step c.text.result.now) c.next.new.self bytes ended stands.steps =
    subst (λ t. GaveStep (step_for c.in-Step.step t) c.next.new.self bytes ended stands.steps) (sym c.text.ensures.value)
    (subst (λ a. Answers a c.next.new.self bytes ended stands.steps) c.in-Step.is
    (c.in-Ok.ensures.value bytes ended stands.steps stands.scanned)) in
    record {
      steps = stands.steps ++ step_for c.in-Step.step c.text.result.now ∷ [];
      scanned = gave.stands;
      holds = c.in-Ok-take.ensures.value limits stands.steps stands.holds;
    }

-- the step is the last of an element that is refused
pub returns-in-Err-take-clause-value : goal.returns-in-Err-take-clause-value
returns-in-Err-take-clause-value c limits bytes ended stands =
    let gave : GaveStep (step_for c.in-Step.step c.text.result.now) c.next.new.self bytes ended stands.steps =
    subst (λ t. GaveStep (step_for c.in-Step.step t) c.next.new.self bytes ended stands.steps) (sym c.text.ensures.value)
    (subst (λ a. Answers a c.next.new.self bytes ended stands.steps) c.in-Step.is
    (c.in-Ok.ensures.value bytes ended stands.steps stands.scanned)) in
    let (all, verdict, reads) = c.one_reading.ensures.found bytes ended in
    elim (c.in-Err-take.ensures.value limits stands.steps stands.holds) [
      | inl e ↦ inl e
      | inr f ↦ inr (fault_comes limits bytes ended (stands.steps ++ step_for c.in-Step.step c.text.result.now ∷ []) all verdict
          c.in-Err-take.e gave.fixed reads f)
    ]
