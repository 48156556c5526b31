-- An element whose value is whole.
use Rattle.std.proofs.Common.{◌≡◌, length, Ok, Err, suc, subst, ◌∙◌, arith, inl, inr}
use Rattle.std.proofs.lemmas.List.{length_push}
use Rattle.map_elements.specs.Outcome.{take_element}
use Rattle.map_elements.specs.Seen.{seen}
use Rattle.map_elements.proofs.TakingLemmas.{next_taken, shape_refused, element_is_refused}
use Rattle.map_elements.proofs.progress.Progress.take_whole.Goals as goal

-- the value is no element
pub returns-in-Err-clause-value : goal.returns-in-Err-clause-value
returns-in-Err-clause-value c limits values taken =
    let here : c.in-Some.at ≡ suc (length values) = omega (arith, c.in-Some.ensures.1, taken.count) in
    elim c.in-Err.ensures.exact [
      | inl e ↦ inl e
      | inr e ↦ inr (shape_refused limits values c.args.self.now.steps c.in-Some.at c.args.self.now.tables.draft here taken.draft c.in-Err.e
          e)
    ]

-- the element is refused
pub returns-in-Err-add-clause-value : goal.returns-in-Err-add-clause-value
returns-in-Err-add-clause-value c limits values taken =
    let here : c.in-Some.at ≡ suc (length values) = omega (arith, c.in-Some.ensures.1, taken.count) in
    elim c.in-Err-add.ensures.exact.0 [
      | inl e ↦ inl e.0
      | inr e ↦ inr (element_is_refused limits values c.args.self.now.steps c.in-Some.at c.args.self.now.tables.draft here taken.draft
          (seen c.in-Ok.element) c.in-Err-add.e c.in-Ok.ensures.exact
          (subst (λ l. take_element l (seen c.in-Ok.element) c.args.self.now.tables.draft ≡ Err c.in-Err-add.e) taken.limits_are e))
    ]

-- the element is taken
pub returns-clause-value : goal.returns-clause-value
returns-clause-value c limits values taken =
    let here : c.in-Some.at ≡ suc (length values) = omega (arith, c.in-Some.ensures.1, taken.count) in
    let (goes, same) = c.in-Ok-add.ensures.exact in
    record {
      count = omega (arith, here, length_push values c.args.self.now.steps);
      draft = next_taken limits values c.args.self.now.steps c.in-Some.at c.args.self.now.tables.draft here taken.draft
          (seen c.in-Ok.element) c.add.new.tables.draft c.in-Ok.ensures.exact
          (subst (λ l. take_element l (seen c.in-Ok.element) c.args.self.now.tables.draft ≡ Ok c.add.new.tables.draft) taken.limits_are
          goes);
      limits_are = same ∙ taken.limits_are;
    }
