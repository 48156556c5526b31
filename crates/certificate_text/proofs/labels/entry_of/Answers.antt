use Rattle.std.proofs.Common.{◌∷◌, arith}
use Rattle.certificate_text.specs.Lines.{IsLink, link_text}
use Rattle.certificate_text.specs.Parts.{AreWeights, print_weights}
use Rattle.certificate_text.proofs.PartLemmas.{pair-first, pair-rest, link-no, entry-none}
use Rattle.certificate_text.proofs.labels.entry_of.Goals as goal

pub returns-in_default : goal.returns-in_default
returns-in_default c = record {
  exact = entry-none c.args.map.now c.args.text.now
      (λ p rest.
      pair-first 32 (link_text c.args.map.now) print_weights (IsLink c.args.map.now) AreWeights
      (λ l below. link-no c.args.map.now 32 l (omega arith) c.links-count.ensures.lawful below) c.args.text.now
      c.in_default.ensures.exact p (10 ∷ rest));
}

pub returns-in_default-weights_of : goal.returns-in_default-weights_of
returns-in_default-weights_of c = record {
  exact = entry-none c.args.map.now c.args.text.now
      (λ p rest fits same.
      c.in_default-weights_of.ensures.exact p.1 rest fits.1
      (pair-rest 32 (link_text c.args.map.now) print_weights (IsLink c.args.map.now) AreWeights
      (λ l below. link-no c.args.map.now 32 l (omega arith) c.links-count.ensures.lawful below) c.args.text.now
      c.in-Some.found.0 c.in-Some.found.1.now c.in-Some.ensures.exact p (10 ∷ rest) fits.0 same));
}
