use Rattle.std.specs.Prelude.{FitsSigned}
use Rattle.std.specs.Fmt.{signed_decimal}
use mir.Syntax.{w64}
use Rattle.std.proofs.lemmas.Int.{to_z-of_z}
use Rattle.certificate_text.specs.Parts.{IsStep, print_step}
use Rattle.certificate_text.proofs.PartLemmas.{pair-first, pair-rest, pair-both, id-no, link-none, link-found, link-lost}
use Rattle.certificate_text.proofs.names.link_at.Goals as goal

pub returns-in_default : goal.returns-in_default
returns-in_default c = record {
  exact = link-none c.args.map.now c.args.text.now c.links-count.ensures.lawful
      (pair-first 47 signed_decimal print_step (FitsSigned w64) IsStep id-no c.args.text.now c.in_default.ensures.exact);
}

pub returns-in_default-step_at : goal.returns-in_default-step_at
returns-in_default-step_at c = record {
  exact = link-none c.args.map.now c.args.text.now c.links-count.ensures.lawful
      (λ name rest fits same.
      c.in_default-step_at.ensures.exact name.1 rest fits.1
      (pair-rest 47 signed_decimal print_step (FitsSigned w64) IsStep id-no c.args.text.now c.in-Some.found.0
      c.in-Some.found.1.now c.in-Some.ensures.exact name rest fits.0 same));
}

pub returns-in_default-find_link : goal.returns-in_default-find_link
returns-in_default-find_link c =
    let fits : FitsSigned w64 c.in-Some.found.0 = c.in-Some.ensures.exact.0 in
    let lost = simp (to_z-of_z, fits) at c.in_default-find_link.ensures.exact in
    record {
      exact = link-lost c.args.map.now c.args.text.now c.in-Some.found.0 c.in-Some-step_at.named.0.0 c.in-Some-step_at.named.0.1
          c.in-Some-step_at.named.1.now c.links-count.ensures.lawful (fits, c.in-Some-step_at.ensures.exact.0.0)
          (pair-both 47 signed_decimal print_step (FitsSigned w64) IsStep id-no c.args.text.now c.in-Some.found.0
          c.in-Some.found.1.now c.in-Some-step_at.named.0 c.in-Some-step_at.named.1.now c.in-Some.ensures.exact
          c.in-Some-step_at.ensures.exact.1) lost;
    }

pub returns : goal.returns
returns c =
    let fits : FitsSigned w64 c.in-Some.found.0 = c.in-Some.ensures.exact.0 in
    let found = simp (to_z-of_z, fits) at c.in-Some-find_link.ensures.exact in
    record {
      exact = link-found c.args.map.now c.args.text.now c.in-Some.found.0 c.in-Some-step_at.named.0.0 c.in-Some-step_at.named.0.1
          c.in-Some-step_at.named.1.now c.links-count.ensures.lawful (fits, c.in-Some-step_at.ensures.exact.0.0)
          (pair-both 47 signed_decimal print_step (FitsSigned w64) IsStep id-no c.args.text.now c.in-Some.found.0
          c.in-Some.found.1.now c.in-Some-step_at.named.0 c.in-Some-step_at.named.1.now c.in-Some.ensures.exact
          c.in-Some-step_at.ensures.exact.1) c.in-Some-find_link.link found;
    }
