use Rattle.std.proofs.Common.{◌∷◌}
use Rattle.std.specs.Prelude.{decimal}
use Rattle.certificate_text.specs.Lines.{IsCost}
use Rattle.certificate_text.specs.Parts.{AreBuffers, print_buffers}
use Rattle.certificate_text.proofs.PartLemmas.{pair-first, pair-rest, cost-no}
use Rattle.certificate_text.proofs.labels.weights_of.Goals as goal

pub returns-in_default : goal.returns-in_default
returns-in_default c = record {
  exact = λ p rest.
      pair-first 32 decimal print_buffers IsCost AreBuffers cost-no c.args.text.now c.in_default.ensures.exact p (10 ∷ rest);
}

pub returns-in_default-buffers_of : goal.returns-in_default-buffers_of
returns-in_default-buffers_of c = record {
  exact = λ p rest fits same.
      c.in_default-buffers_of.ensures.exact p.1 rest fits.1
      (pair-rest 32 decimal print_buffers IsCost AreBuffers cost-no c.args.text.now c.in-Some.found.0 c.in-Some.found.1.now
      c.in-Some.ensures.exact p (10 ∷ rest) fits.0 same);
}
