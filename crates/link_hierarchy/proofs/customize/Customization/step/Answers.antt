use Rattle.std.proofs.Common.{arith}
use Rattle.link_hierarchy.proofs.CustomizingLemmas.{step-node}
use Rattle.link_hierarchy.proofs.customize.Customization.step.Goals as goal

pub returns-else-self-out_end-clause-on : goal.returns-else-self-out_end-clause-on
returns-else-self-out_end-clause-on c =
    step-node c.args.topology.now c.in_end.ensures.lawful c.args._arcs.now c.args.self.now c.requires.on c.requires.all c.requires.more
    (omega (arith, c.in_end.ensures.value, c.if-self-in_end.false)) (omega (arith, c.out_end.ensures.value, c.if-self-out_end.false))
