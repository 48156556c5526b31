use Rattle.lookup_table.specs.declared.part.Part.TheVariants.{Way}
use Rattle.profile_code.proofs.AnswerLemmas.{own_ready}
use Rattle.profile_code.proofs.answers.way_answer.Goals as goal

pub run_section-requires-clause-ready : goal.run_section-requires-clause-ready
run_section-requires-clause-ready c =
    own_ready c.args.code.now Way c.args.numbers.now c.args.scratch.now c.requires.held c.requires.fits c.own_instrs.result.now
    c.as_slice.result.now
    c.args.scratch.now.way c.own_instrs.ensures.sound c.own_instrs.ensures.value c.as_slice.ensures.value c.requires.held.made.way
