use Rattle.std.proofs.Common.{◌∷◌}
use Rattle.std.specs.Fmt.{signed_decimal}
use Rattle.certificate_text.specs.Lines.{IsBuffer}
use Rattle.certificate_text.proofs.PartLemmas.{pair-first, pair-rest, buffer-no}
use Rattle.certificate_text.proofs.labels.buffers_of.Goals as goal

pub returns-in_default : goal.returns-in_default
returns-in_default c = record {
  exact = λ p rest.
      pair-first 32 signed_decimal signed_decimal IsBuffer IsBuffer buffer-no c.args.text.now c.in_default.ensures.exact p (10 ∷ rest);
}

pub returns-in_default-buffer_before : goal.returns-in_default-buffer_before
returns-in_default-buffer_before c = record {
  exact = λ p rest fits same.
      c.in_default-buffer_before.ensures.exact p.1 rest fits.1
      (pair-rest 32 signed_decimal signed_decimal IsBuffer IsBuffer buffer-no c.args.text.now c.in-Some.found.0
      c.in-Some.found.1.now c.in-Some.ensures.exact p (10 ∷ rest) fits.0 same);
}
