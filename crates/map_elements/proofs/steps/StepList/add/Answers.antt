use Rattle.std.proofs.Common.{rules, [], ◌∷◌, ◌++◌, ap, ◌∙◌}
use Rattle.std.specs.Prelude.{is_ok, if◌then◌else◌}
use Rattle.json_text.specs.Steps.{step_for}
use Rattle.map_elements.proofs.StepLemmas.{steps_in-push, AreWithin-next}
use Rattle.map_elements.proofs.steps.StepList.add.Goals as goal

pub invariant_of-self-2 : goal.invariant_of-self-2
invariant_of-self-2 c = AreWithin-next _ _ _ _ _ c.args.step _ c.self.invariant c.in_ok-append_bytes.ensures.exact (search rules) _
    c.keep_row.ensures.value

pub returns : goal.returns
returns c = record {
  value = steps_in-push _ _ _ _ _ c.args.step _ c.self.invariant c.in_ok-append_bytes.ensures.exact (search rules) _
      c.keep_row.ensures.value
      ∙ ap (λ steps. if is_ok c.keep_row.result then steps ++ step_for c.args.step c.args.text.now ∷ [] else steps) c.self.view_is;
}
