use Rattle.std.proofs.Common.{sym, arith}
use Rattle.std.proofs.lemmas.List.{length-take-le, take_all}
use Rattle.command_words.specs.Shown.{most_shown}
use Rattle.command_words.proofs.shown.front.Goals as goal

pub slice_bounds-result-end : goal.slice_bounds-result-end
slice_bounds-result-end c = sym (length-take-le most_shown c.args.word.now (omega (arith, c.if-word-gt-MOST_SHOWN.true)))

pub returns-else-word-gt-MOST_SHOWN : goal.returns-else-word-gt-MOST_SHOWN
returns-else-word-gt-MOST_SHOWN c = record {
  value = sym (take_all most_shown c.args.word.now (omega (arith, c.if-word-gt-MOST_SHOWN.false)));
}
