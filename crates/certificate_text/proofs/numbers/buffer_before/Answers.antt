use Rattle.certificate_text.proofs.NumberLemmas.{buffer-high}
use Rattle.certificate_text.proofs.numbers.buffer_before.Goals as goal

pub returns-else-number-lt9223372036854775808 : goal.returns-else-number-lt9223372036854775808
returns-else-number-lt9223372036854775808 c = record {
  exact = buffer-high c.args.text.now c.args.byte c.in-Some.found.0 c.in-Some.found.1.now c.requires.low c.in-Some.ensures.exact
      c.if-number-lt9223372036854775808.false;
}
