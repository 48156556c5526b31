use Rattle.std.proofs.Common.{◌∙◌, ◌*◌, ◌-◌, ℕ, ap, arith, min, get_or, take}
use Rattle.fixed_num.specs.Decimal.{cut_millionths}
use Rattle.fixed_num.specs.declared.decimal.TheConstants.{POWERS as powers}
use Rattle.fixed_num.proofs.RoundingLemmas.{cut_is, held_digits, held_product, power_left-ge}
use Rattle.fixed_num.proofs.decimal.Parts.cut.Goals as goal

pub returns : goal.returns
unfolding cut_millionths
returns c =
    let f = c.self.inside.fraction.now in
    let left : ℕ = get_or powers (6 - c.min-kept.result) 0 in
    record {
      exact =
          c.min.ensures
          ∙ ap (λ n. min n 10000000000000000) c.saturating_mul.ensures
          ∙ ap (λ n. min (min (n * left) 18446744073709551615) 10000000000000000)
          (held_digits c.self.inside.whole.now (take c.min-kept.result f) _ _
          c.capped_number-whole.ensures.exact c.capped_number-number.ensures.exact)
          ∙ held_product _ left (power_left-ge c.min-kept.result (omega arith))
          ∙ ap (λ n. min n 10000000000000000)
          (cut_is c.self.inside.whole.now f c.min-kept.result c.min-kept.ensures c.self.invariant.fraction_digits)
          ∙ ap (λ d. min (cut_millionths d) 10000000000000000) c.self.view_is;
    }
