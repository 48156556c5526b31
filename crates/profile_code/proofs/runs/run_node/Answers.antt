use Rattle.lookup_table.specs.declared.part.Part.TheVariants.{Node}
use Rattle.profile_code.specs.Effects.{node_number}
use Rattle.profile_code.specs.Runs.{part_run}
use Rattle.profile_code.proofs.MeaningLemmas.{own_answered}
use Rattle.profile_code.proofs.runs.run_node.Goals as goal

pub returns-clause-meaning : goal.returns-clause-meaning
returns-clause-meaning c =
    own_answered (part_run c.args.code.now Node c.args.numbers.now c.args.scratch.now) c.requires.held.values c.requires.fits
    node_number c.node_answer.result c.node_answer.ensures.exact
