-- A step in the list of elements.
use Rattle.std.proofs.Common.{◌≡◌, false, refl, sym, ap, subst, ◌∙◌}
use Rattle.json_text.specs.Steps.{step_for}
use Rattle.map_elements.specs.Reader.{IsInList, goes_on}
use Rattle.map_elements.proofs.PlaceLemmas.{between, is_end}
use Rattle.map_elements.proofs.ProgressLemmas.{past_holds, named_holds}
use Rattle.map_elements.proofs.progress.Progress.take_listed.Goals as goal

-- a step of an element
pub returns-then-goes_on : goal.returns-then-goes_on
returns-then-goes_on c = record {
  value = λ limits steps values inside taken.
      c.take_inner.ensures.value limits steps values inside taken (sym (c.goes_on.ensures.value c.args.text.now) ∙ c.if-goes_on.true);
}

-- a name stands there
pub returns-in-Key : goal.returns-in-Key
returns-in-Key c = record {
  value = λ limits steps values inside taken.
      let s = step_for c.args.step c.args.text.now in
      let none : c.args.depth ≡ 0 = between c.args.depth s (sym (c.goes_on.ensures.value c.args.text.now) ∙ c.if-goes_on.false) in
      named_holds limits steps c.args.self.now.steps values c.args.text.now s c.args.self.now _
      (subst (λ d. IsInList steps d c.args.self.now.steps values) none inside) taken
      (ap (λ x. step_for x c.args.text.now) c.in-Key.is) refl c.clear.ensures.value refl refl;
}

-- the list ends
pub returns-in_default : goal.returns-in_default
returns-in_default c = record {
  value = λ limits steps values inside taken.
      let s = step_for c.args.step c.args.text.now in
      let stays : goes_on c.args.depth s ≡ false = sym (c.goes_on.ensures.value c.args.text.now) ∙ c.if-goes_on.false in
      let none : c.args.depth ≡ 0 = between c.args.depth s stays in
      past_holds limits steps c.args.self.now.steps values c.args.text.now s c.args.self.now _
      (subst (λ d. IsInList steps d c.args.self.now.steps values) none inside) taken
      (is_end c.args.step c.args.text.now c.in_default.not-Key (subst (λ d. goes_on d s ≡ false) none stays)) refl refl refl;
}
