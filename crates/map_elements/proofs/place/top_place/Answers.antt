-- Where a step in the top object leads.
use Rattle.std.proofs.Common.{◌≡◌, false, true, [], ◌∷◌, ◌++◌, refl, sym, subst, ◌∙◌}
use Rattle.json_text.specs.Steps.{step_for}
use Rattle.map_elements.specs.Reader.{IsTop, goes_on}
use Rattle.map_elements.proofs.PlaceLemmas.{between, top_goes_on}
use Rattle.map_elements.proofs.place.top_place.Goals as goal

-- a name or the end of the top object
pub returns-then-not-goes_on : goal.returns-then-not-goes_on
returns-then-not-goes_on c = record {
  value = λ steps top.
      c.entry_place.ensures.value steps c.args.is_named
      (subst (λ d. IsTop steps d c.args.is_named)
      (between c.args.depth (step_for c.args.step c.args.text.now) (sym (c.goes_on.ensures.value c.args.text.now) ∙ c.if-not-goes_on.true))
      top);
}

-- a step of a value
pub returns : goal.returns
returns c = record {
  value = λ steps top.
      let goes : goes_on c.args.depth (step_for c.args.step c.args.text.now) ≡ true =
      sym (c.goes_on.ensures.value c.args.text.now) ∙ c.if-not-goes_on.false in (
        subst (λ d. IsTop (steps ++ step_for c.args.step c.args.text.now ∷ []) d false) (sym (c.in_ok-after.ensures.value c.args.text.now))
            (top_goes_on steps c.args.depth (step_for c.args.step c.args.text.now) goes
            (subst (λ b. IsTop steps c.args.depth b) c.if-is_named.false top)),
        refl,
        refl,
      );
}
