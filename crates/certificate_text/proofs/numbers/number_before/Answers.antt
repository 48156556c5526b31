use Rattle.std.proofs.Common.{arith}
use Rattle.certificate_text.proofs.NumberLemmas.{before-high}
use Rattle.certificate_text.proofs.numbers.number_before.Goals as goal

pub returns-else-number-lt4294967296 : goal.returns-else-number-lt4294967296
returns-else-number-lt4294967296 c = record {
  exact = λ n rest fits same.
      before-high c.args.text.now c.args.byte c.in-Some.found.0 n c.in-Some.found.1.now rest c.requires.low 4294967296 (omega arith)
      (omega (arith, c.in-Some.ensures.exact.0)) c.in-Some.ensures.exact.1 c.if-number-lt4294967296.false fits same;
}
