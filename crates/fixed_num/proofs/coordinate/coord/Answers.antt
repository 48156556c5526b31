use Rattle.std.proofs.Common.{◌≡◌, ◌≢◌, ℤ, unsigned_abs, Result, sym, ap, ◌∙◌, subst}
use Rattle.std.proofs.lemmas.Int.{to_z-of_z}
use mir.Syntax.{w64}
use Rattle.fixed_num.specs.declared.coordinate.CoordError.{CoordError}
use Rattle.fixed_num.specs.declared.coordinate.CoordError.TheVariants.{NotDecimal, OutOfRange}
use Rattle.fixed_num.specs.Decimal.{rounded_millionths}
use Rattle.fixed_num.specs.Coordinate.{coordinate_of}
use Rattle.fixed_num.proofs.TextLemmas.{coordinate_in_range, SpellsValue-mil6_rounded}
use Rattle.fixed_num.proofs.ValueLemmas.{ReadsAs, reads_as}
use Rattle.fixed_num.proofs.coordinate.coord.Goals as goal

-- the two refusals differ
apart : NotDecimal ≢ OutOfRange
apart same = cc

pub returns : goal.returns
unfolding coordinate_of
returns c =
    let exact : c.coordinate.result ≡ coordinate_of c.args.most c.args.text.now =
    c.coordinate.ensures.exact ∙ ap (λ m. coordinate_of m c.args.text.now) (to_z-of_z w64 c.args.most c.ranges.most) in
    let reads : ReadsAs rounded_millionths (unsigned_abs c.args.most) NotDecimal OutOfRange c.args.text.now c.coordinate.result =
    subst (λ (r : Result ℤ CoordError). ReadsAs rounded_millionths (unsigned_abs c.args.most) NotDecimal OutOfRange c.args.text.now r)
    (sym exact) (reads_as rounded_millionths (unsigned_abs c.args.most) NotDecimal OutOfRange apart c.args.text.now) in
    record {
      exact = exact;
      found = reads.found;
      only = reads.only;
      reread =
          λ n fits printed. reads.only n
          (SpellsValue-mil6_rounded c.args.text.now n
          (coordinate_in_range c.args.most n c.requires.positive c.requires.fits fits) printed) fits;
      not_decimal = reads.bad_spelling;
      out_of_range = reads.out_of_range;
    }
