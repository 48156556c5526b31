use Rattle.std.proofs.Common.{◌≡◌, ◌≢◌, ℤ, unsigned_abs, Result, sym, subst, arith, inl, inr}
use Rattle.std.proofs.lemmas.Bool.{cases_lt}
use Rattle.fixed_num.specs.declared.literal.NumError.{NumError}
use Rattle.fixed_num.specs.declared.literal.NumError.TheVariants.{NotNumber, TooLarge}
use Rattle.fixed_num.specs.Decimal.{cut_millionths}
use Rattle.fixed_num.specs.Literal.{literal_of}
use Rattle.fixed_num.proofs.TextLemmas.{SpellsValue-mil6_cut}
use Rattle.fixed_num.proofs.ValueLemmas.{ReadsAs, reads_as}
use Rattle.fixed_num.proofs.number.Num.read.Goals as goal

-- the two refusals differ
apart : NotNumber ≢ TooLarge
apart same = cc

pub returns : goal.returns
unfolding literal_of
returns c =
    let exact : c.literal.result ≡ literal_of c.args.text.now = c.literal.ensures.exact in
    let reads : ReadsAs cut_millionths 1000000000000000 NotNumber TooLarge c.args.text.now c.literal.result =
    subst (λ (r : Result ℤ NumError). ReadsAs cut_millionths 1000000000000000 NotNumber TooLarge c.args.text.now r) (sym exact)
    (reads_as cut_millionths 1000000000000000 NotNumber TooLarge apart c.args.text.now) in
    record {
      exact = exact;
      found = reads.found;
      only = reads.only;
      reread = λ n fits printed. reads.only n (SpellsValue-mil6_cut c.args.text.now n fits printed) fits;
      not_number = reads.bad_spelling;
      too_large = (
        λ same. let value = reads.out_of_range.0 same in (value.0, value.1, λ small. absurd (omega (arith, value.2))),
        λ value. reads.out_of_range.1 (
          value.0,
          value.1,
          elim (cases_lt 1000000000000000 (unsigned_abs value.0)) [ inl big ↦ big | inr small ↦ absurd (value.2 small) ],
        ),
      );
    }
