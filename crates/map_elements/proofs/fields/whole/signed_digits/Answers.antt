use Rattle.std.proofs.Common.{ap, sym, ◌∙◌}
use Rattle.map_elements.specs.Fields.{with_some}
use Rattle.map_elements.specs.Whole.{signed_size}
use Rattle.map_elements.proofs.WholeLemmas.{whole_digits}
use Rattle.map_elements.proofs.fields.whole.signed_digits.Goals as goal

pub returns-in-None : goal.returns-in-None
returns-in-None c = record {
  exact = sym (whole_digits c.args.negative c.args.digits.now
      ∙ ap (λ o. with_some o (signed_size c.args.negative)) (sym c.digits_size.ensures.exact ∙ c.in-None.is));
}

pub returns-in-Some : goal.returns-in-Some
returns-in-Some c = record {
  exact = c.signed.ensures.exact ∙ sym (whole_digits c.args.negative c.args.digits.now
      ∙ ap (λ o. with_some o (signed_size c.args.negative)) (sym c.digits_size.ensures.exact ∙ c.in-Some.is));
}
