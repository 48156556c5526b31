use Rattle.profile_code.proofs.MeaningLemmas.{value_assigned, value_held}
use Rattle.profile_code.specs.Scratch.{held_values}
use Rattle.profile_code.proofs.runs.global_value.Goals as goal

pub returns-clause-exact : goal.returns-clause-exact
returns-clause-exact c = cc

pub returns-clause-meaning : goal.returns-clause-meaning
returns-clause-meaning c =
    value_held c.args.code.now (held_values c.args.scratch.now) c.args.name.now c.value_at.result c.requires.held.values
    (returns-clause-exact c)

pub returns-clause-found : goal.returns-clause-found
returns-clause-found c subject code =
    value_assigned subject c.args.name.now c.value_at.result (returns-clause-meaning c subject code)
