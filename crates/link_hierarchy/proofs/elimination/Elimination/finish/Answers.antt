use Rattle.std.proofs.Common.{arith}
use Rattle.link_hierarchy.proofs.EliminationLemmas.{ended-covers, ended-topology}
use Rattle.link_hierarchy.proofs.elimination.Elimination.finish.Goals as goal

pub invariant_of-result : goal.invariant_of-result
invariant_of-result c =
    ended-topology c.args._arcs.now c.args.self c.requires.on c.requires.over (omega arith) (omega arith) (omega arith)

pub returns-clause-covers : goal.returns-clause-covers
returns-clause-covers c = ended-covers c.args._arcs.now c.args.self c.requires.on c.requires.over
