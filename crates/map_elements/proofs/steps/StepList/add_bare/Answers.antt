use Rattle.std.proofs.Common.{[], ◌∷◌, ◌++◌, ap, ◌∙◌}
use Rattle.std.specs.Prelude.{is_ok, if◌then◌else◌}
use Rattle.json_text.specs.Steps.{step_for}
use Rattle.map_elements.proofs.StepLemmas.{steps_in-bare, AreWithin-bare}
use Rattle.map_elements.proofs.steps.StepList.add_bare.Goals as goal

pub invariant_of-self : goal.invariant_of-self
invariant_of-self c = AreWithin-bare _ _ _ c.args.step c.self.invariant _ c.keep_row.ensures.value

pub returns : goal.returns
returns c = record {
  value = steps_in-bare _ _ _ c.args.step _ c.keep_row.ensures.value
      ∙ ap (λ steps. if is_ok c.keep_row.result then steps ++ step_for c.args.step [] ∷ [] else steps) c.self.view_is;
}
