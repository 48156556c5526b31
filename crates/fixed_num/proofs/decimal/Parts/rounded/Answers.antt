use Rattle.std.proofs.Common.{◌≡◌, ◌+◌, ◌<◌, ◌≤◌, ◌∙◌, ap, sym, subst, refl, arith, min, length, get_or}
use Rattle.fixed_num.specs.Decimal.{Decimal, cut_millionths, rounded_millionths}
use Rattle.fixed_num.proofs.RoundingLemmas.{rounded_up, rounded_same}
use Rattle.fixed_num.proofs.decimal.Parts.rounded.Goals as goal

pub returns-then-rounds_up : goal.returns-then-rounds_up
returns-then-rounds_up c =
    let seventh : (6 < length c.self.inside.fraction.now) × (53 ≤ get_or c.self.inside.fraction.now 6 0) =
    c.if-rounds_up.ensures.exact.0 refl in
    let up =
    subst (λ (d : Decimal). rounded_millionths d ≡ cut_millionths d + 1) c.self.view_is
    (rounded_up _ seventh.0 c.self.invariant.fraction_digits seventh.1) in
    record { exact = omega (arith, up, c.min.ensures, c.cut.ensures.exact) }

pub returns-else-rounds_up : goal.returns-else-rounds_up
returns-else-rounds_up c =
    let same : rounded_millionths c.args.self.now ≡ cut_millionths c.args.self.now =
    subst (λ (d : Decimal). rounded_millionths d ≡ cut_millionths d) c.self.view_is
    (rounded_same _ c.self.invariant.fraction_digits c.if-rounds_up.ensures.exact.1) in
    record { exact = c.cut-else-rounds_up.ensures.exact ∙ ap (λ n. min n 10000000000000000) (sym same) }
