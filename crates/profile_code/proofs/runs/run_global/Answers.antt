use Rattle.profile_code.specs.Effects.{global_numbers}
use Rattle.profile_code.proofs.MeaningLemmas.{global_answered}
use Rattle.profile_code.proofs.runs.run_global.Goals as goal

pub returns-clause-meaning : goal.returns-clause-meaning
returns-clause-meaning c =
    global_answered global_numbers c.args.code.now c.global_answer.result c.global_answer.ensures.exact
