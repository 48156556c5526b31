use Rattle.std.proofs.Common.{arith}
use Rattle.certificate_text.proofs.NumberLemmas.{id-none, id-other}
use Rattle.certificate_text.proofs.numbers.id_before.Goals as goal

pub returns-in_default : goal.returns-in_default
returns-in_default c = record {
  exact = id-none c.args.text.now c.args.byte c.if-text-ne45.false c.split_at.result.1.now c.split_at.ensures.back
      c.in_default.ensures.exact;
}

pub returns-then-number-eq0 : goal.returns-then-number-eq0
returns-then-number-eq0 c = record {
  exact = id-other c.args.text.now c.args.byte c.if-text-ne45.false c.requires.low c.split_at.result.1.now c.split_at.ensures.back
      c.in-Some.found.0 c.in-Some.found.1.now c.in-Some.ensures.exact
      (λ some. absurd (omega (arith, some, c.if-number-eq0.true)));
}

pub returns-else-below-lt9223372036854775808 : goal.returns-else-below-lt9223372036854775808
returns-else-below-lt9223372036854775808 c = record {
  exact = id-other c.args.text.now c.args.byte c.if-text-ne45.false c.requires.low c.split_at.result.1.now c.split_at.ensures.back
      c.in-Some.found.0 c.in-Some.found.1.now c.in-Some.ensures.exact
      (λ some. omega (arith, some, c.if-below-lt9223372036854775808.false));
}
