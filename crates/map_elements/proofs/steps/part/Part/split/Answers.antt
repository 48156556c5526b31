use Rattle.std.proofs.Common.{List, subst, sym}
use Rattle.map_elements.specs.declared.steps.Row.{Row}
use Rattle.map_elements.specs.Steps.{AreWithin}
use Rattle.map_elements.proofs.StepLemmas.{AreWithin-take, AreWithin-drop}
use Rattle.map_elements.proofs.steps.part.Part.split.Goals as goal

pub invariant_of-result : goal.invariant_of-result
invariant_of-result c =
    subst (λ (r : List Row). AreWithin c.self.inside.bytes.now r) (sym c.split_at.ensures.front)
    (AreWithin-take _ c.args.count _ c.self.invariant)

pub invariant_of-result-2 : goal.invariant_of-result-2
invariant_of-result-2 c =
    subst (λ (r : List Row). AreWithin c.self.inside.bytes.now r) (sym c.split_at.ensures.back)
    (AreWithin-drop _ c.args.count _ c.self.invariant)
