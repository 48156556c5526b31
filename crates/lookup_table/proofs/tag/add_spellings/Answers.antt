use Rattle.std.proofs.Common.{◌∙◌, ap, sym}
use Rattle.lookup_table.specs.Spelled.{spelled}
use Rattle.lookup_table.specs.Tag.{add_spellings}
use Rattle.lookup_table.specs.Words.{words_of}
use Rattle.lookup_table.proofs.tag.add_spellings.Goals as goal

pub returns-in_err-add_spelling-clause-sound : goal.returns-in_err-add_spelling-clause-sound
returns-in_err-add_spelling-clause-sound c = λ values two le within.
    c.in_err-add_spelling.ensures.sound values two le (c.loop-found.invariant.1 values two le within)

pub loop-found-preserved : goal.loop-found-preserved
loop-found-preserved c = (
  ap (λ numbers. add_spellings numbers c.args.number (words_of c.in-Some.found.1.now)) c.in_ok-add_spelling.ensures.value
      ∙ sym (ap (add_spellings (spelled c.loop-found.numbers) c.args.number) c.in-Some.ensures.value)
      ∙ c.loop-found.invariant.0,
  λ values two le within. c.in_ok-add_spelling.ensures.sound values two le (c.loop-found.invariant.1 values two le within),
)
