use Rattle.std.proofs.Common.{◌∙◌, ap, take}
use Rattle.std.specs.Str.{all_ascii_digits}
use Rattle.fixed_num.proofs.GrammarLemmas.{all_ascii_digits-front, tail_of_sound}
use Rattle.item_list.proofs.ListLemmas.{some_from_test}
use Rattle.fixed_num.proofs.decimal.Parts.unsigned.Goals as goal

pub invariant_of-result : goal.invariant_of-result
invariant_of-result c = record {
  some_whole = some_from_test c.split_at.result.0.now c.if-is_empty.ensures;
  whole_digits =
      ap all_ascii_digits (c.split_at.ensures.front ∙ ap (λ n. take n c.args.text.now) c.leading_digits.ensures.exact)
      ∙ all_ascii_digits-front c.args.text.now;
  fraction_digits = (tail_of_sound c.split_at.result.1.now c.in_ok-fraction.fraction.now c.in_ok-fraction.ensures.exact).1;
}
