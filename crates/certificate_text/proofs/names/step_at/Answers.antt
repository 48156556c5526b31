use Rattle.std.specs.Prelude.{Bool, decimal}
use Rattle.overpass_graph.specs.Names.{letter_of}
use Rattle.certificate_text.specs.Parts.{IsNumber}
use Rattle.certificate_text.proofs.PartLemmas.{pair-rest, number-no}
use Rattle.certificate_text.proofs.names.step_at.Goals as goal

pub returns-in_default-direction_at : goal.returns-in_default-direction_at
returns-in_default-direction_at c = record {
  exact = λ step rest fits same.
      c.in_default-direction_at.ensures.exact step.1 rest fits.1
      (pair-rest 47 decimal letter_of IsNumber (λ (b : Bool). Unit {0}) number-no c.args.text.now c.in-Some.found.0
      c.in-Some.found.1.now c.in-Some.ensures.exact step rest fits.0 same);
}
