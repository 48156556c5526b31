use Rattle.lookup_table.specs.declared.part.Part.TheVariants.{Way}
use Rattle.profile_code.specs.Effects.{way_numbers}
use Rattle.profile_code.specs.Runs.{part_run}
use Rattle.profile_code.proofs.MeaningLemmas.{own_answered}
use Rattle.profile_code.proofs.runs.run_way.Goals as goal

pub returns-clause-meaning : goal.returns-clause-meaning
returns-clause-meaning c =
    own_answered (part_run c.args.code.now Way c.args.numbers.now c.args.scratch.now) c.requires.held.values c.requires.fits
    way_numbers c.way_answer.result c.way_answer.ensures.exact
