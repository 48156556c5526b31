use Rattle.std.proofs.Common.{◌∙◌, sym, subst, arith}
use Rattle.std.specs.Prelude.{decimal}
use Rattle.certificate_text.specs.Parts.{HasNo}
use Rattle.certificate_text.proofs.ByteLemmas.{cut-same, no-within}
use Rattle.certificate_text.proofs.NumberLemmas.{decimal-no}
use Rattle.certificate_text.proofs.numbers.long_before.Goals as goal

pub returns-in_default : goal.returns-in_default
returns-in_default c = record {
  exact = λ n rest fits same. no-within c.args.byte (decimal n) rest (subst (HasNo c.args.byte) same c.in_default.ensures.exact);
}

pub returns-in_default-cost_of : goal.returns-in_default-cost_of
returns-in_default-cost_of c = record {
  exact = λ n rest fits same.
      c.in_default-cost_of.ensures.exact n fits
      (cut-same c.args.byte c.in-Some.found.0.now (decimal n) c.in-Some.found.1.now rest c.in-Some.ensures.exact.0
      (decimal-no c.args.byte n c.requires.low (omega (arith, fits))) (sym c.in-Some.ensures.exact.1 ∙ same)).0;
}
