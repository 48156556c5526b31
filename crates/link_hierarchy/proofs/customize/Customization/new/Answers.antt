use Rattle.std.proofs.Common.{◌∙◌, replicate, ap}
use Rattle.link_hierarchy.specs.declared.limits.TheConstants.{NONE}
use Rattle.link_hierarchy.proofs.CustomizingLemmas.{customization-begins}
use Rattle.link_hierarchy.proofs.customize.Customization.new.Goals as goal

pub returns : goal.returns
returns c = record {
  on = customization-begins c.args.topology.now c.outs.ensures.lawful c.args._arcs.now _ _ _
      (c.in_ok-weights.ensures.value.0 ∙ ap (λ n. replicate n NONE) c.outs.ensures.value)
      (c.in_ok-weights.ensures.value.1 ∙ ap (λ n. replicate n NONE) c.ins.ensures.value)
      c.first_tail.ensures.value c.first_head.ensures.value;
}
