use Rattle.std.proofs.Common.{arith}
use Rattle.link_hierarchy.proofs.JoinLemmas.{customized-carries, customized-closed}
use Rattle.link_hierarchy.proofs.customize.Customization.finish.Goals as goal

pub returns-clause-fits : goal.returns-clause-fits
returns-clause-fits c = c.requires.on.fits

pub returns-clause-closed : goal.returns-clause-closed
returns-clause-closed c =
    customized-closed c.args.topology.now c.nodes-nodes.ensures.lawful c.args._arcs.now c.args.self.weights c.args.self.node
    (omega (arith, c.requires.over)) c.requires.on.over

pub returns-clause-carries : goal.returns-clause-carries
returns-clause-carries c =
    customized-carries c.args.topology.now c.args._arcs.now c.args.self.weights c.args.self.taken c.requires.all c.requires.on.real
    c.requires.on.based
