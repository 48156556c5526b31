use Rattle.std.proofs.Common.{◌≡◌, ◌∙◌, ap, sym, arith}
use Rattle.std.specs.Prelude.{decimal}
use Rattle.certificate_text.proofs.NumberLemmas.{decimal-text, refused-wide, parsed-wide, not-both}
use Rattle.certificate_text.proofs.numbers.cost_of.Goals.{else-cost-lt-COST_END-via-then-cost-lt-COST_END+else-is_cost, else-cost-lt-COST_END-via-else-cost-lt-COST_END}
use Rattle.certificate_text.proofs.numbers.cost_of.Goals as goal

pub returns-in_default : goal.returns-in_default
returns-in_default c = record {
  exact = λ n fits same. c.in_default.ensures.cases.0 (decimal-text c.args.text.now n (omega (arith, fits)) same);
}

pub returns-in_default-from_str_radix : goal.returns-in_default-from_str_radix
returns-in_default-from_str_radix c = record {
  exact = λ n fits same.
      refused-wide 128 c.in-Ok.word.now c.in_default-from_str_radix.ensures.value n (omega (arith, fits)) (omega (arith, fits))
      (c.in-Ok.ensures.cases.0 ∙ same);
}

pub returns-else-cost-lt-COST_END : goal.returns-else-cost-lt-COST_END
returns-else-cost-lt-COST_END c = record {
  exact = λ n fits same.
      let one : c.in-Ok-from_str_radix.cost ≡ n =
      parsed-wide 128 c.in-Ok.word.now c.in-Ok-from_str_radix.cost c.in-Ok-from_str_radix.ensures.value n (omega (arith, fits))
      (omega (arith, fits)) (c.in-Ok.ensures.cases.0 ∙ same) in
      elim c.else-cost-lt-COST_END.branch [
        | else-cost-lt-COST_END-via-then-cost-lt-COST_END+else-is_cost w ↦
            not-both w.is_cost.result w.if-is_cost.false (w.is_cost.ensures.exact.1 (same ∙ ap decimal (sym one)))
        | else-cost-lt-COST_END-via-else-cost-lt-COST_END w ↦ absurd (omega (arith, w.if-cost-lt-COST_END.false, one, fits))
      ];
}
