use Rattle.std.proofs.Common.{sym, ap, ◌∙◌, length, nat_eq}
use Rattle.fixed_num.proofs.GrammarLemmas.{is_fraction_is}
use Rattle.fixed_num.proofs.decimal.is_all_digits.Goals as goal

pub returns-then-not-is_empty : goal.returns-then-not-is_empty
returns-then-not-is_empty c = record {
  exact =
      ap (λ n. nat_eq n (length c.args.text.now)) c.leading_digits.ensures.exact
      ∙ is_fraction_is c.args.text.now (sym c.is_empty.ensures ∙ c.if-not-is_empty.true);
}
