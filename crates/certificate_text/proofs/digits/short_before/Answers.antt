use Rattle.std.proofs.Common.{◌++◌, ◌∷◌, ◌∙◌, sym, ap, subst}
use Rattle.certificate_text.specs.Parts.{IsPlain}
use Rattle.certificate_text.proofs.DigitLemmas.{decimal-plain, number-back, number-front, scanned-below, scanned-decimal}
use Rattle.certificate_text.proofs.NumberLemmas.{not-both}
use Rattle.certificate_text.proofs.digits.short_before.Goals as goal

pub returns-then-not-is_plain : goal.returns-then-not-is_plain
returns-then-not-is_plain c = record {
  exact = λ n rest small same.
      let front = number-front c.args.text.now c.digits_at-count.result.0 c.digits_at-count.result.1 c.args.byte n rest
      c.digits_at-count.ensures.digits c.digits_at-count.ensures.stops c.digits_at-count.ensures.few c.requires.low small same in
      not-both c.is_plain.result c.if-not-is_plain.true
      (c.is_plain.ensures.exact.1 (subst IsPlain (sym (c.split_at.ensures.front ∙ front)) (decimal-plain n small)));
}

pub returns-in_default : goal.returns-in_default
returns-in_default c = record {
  exact = λ n rest small same.
      c.in_default.ensures.exact rest
      (c.split_at.ensures.back
      ∙ number-back c.args.text.now c.digits_at-count.result.0 c.digits_at-count.result.1 c.args.byte n rest
      c.digits_at-count.ensures.digits c.digits_at-count.ensures.stops c.digits_at-count.ensures.few c.requires.low small same);
}

pub returns : goal.returns
returns c =
    let text = c.args.text.now in
    let plain = subst IsPlain c.split_at.ensures.front (c.is_plain.ensures.exact.0 c.if-not-is_plain.false) in
    let digits = scanned-decimal text c.digits_at-count.result.0 c.digits_at-count.result.1 c.digits_at-count.ensures.digits
    c.digits_at-count.ensures.few plain in
    record {
      exact = (
        scanned-below text c.digits_at-count.result.0 c.digits_at-count.result.1 19 c.digits_at-count.ensures.digits
            c.digits_at-count.ensures.few,
        c.split_at.ensures.by_index.0 ∙ ap (λ t. c.split_at.result.0.now ++ t) c.in-Some.ensures.exact
            ∙ ap (λ t. t ++ (c.args.byte ∷ c.in-Some.rest.now)) (c.split_at.ensures.front ∙ sym digits),
      );
    }
