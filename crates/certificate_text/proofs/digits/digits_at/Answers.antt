use Rattle.std.proofs.Common.{◌∙◌, ◌+◌, ◌*◌, get_or, sym, subst, arith}
use Rattle.certificate_text.proofs.DigitLemmas.{digit-told, scanned-below, scanned-next}
use Rattle.certificate_text.specs.Parts.{IsScanned}
use Rattle.certificate_text.proofs.digits.digits_at.Goals as goal

pub overflow_mul-number : goal.overflow_mul-number
overflow_mul-number c =
    omega (arith, scanned-below c.args.text.now c.digits.place c.digits.number 18 c.digits.invariant (omega arith))

pub overflow_add-number : goal.overflow_add-number
overflow_add-number c =
    let told = digit-told (get_or c.args.text.now c.digits.place 0) (sym c.is_digit.ensures.exact ∙ c.if-not-is_digit.false) in
    omega (arith, scanned-below c.args.text.now c.digits.place c.digits.number 18 c.digits.invariant (omega arith), told.1, c.from.ensures)

pub digits-preserved : goal.digits-preserved
digits-preserved c =
    subst (λ d. IsScanned c.args.text.now (c.digits.place + 1) (c.digits.number * 10 + d)) (sym c.from.ensures)
    (scanned-next c.args.text.now c.digits.place c.digits.number c.digits.invariant (omega arith)
    (sym c.is_digit.ensures.exact ∙ c.if-not-is_digit.false))
