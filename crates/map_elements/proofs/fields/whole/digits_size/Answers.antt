use Rattle.std.proofs.Common.{arith, sym}
use Rattle.map_elements.specs.Whole.{size_in}
use Rattle.map_elements.proofs.WholeLemmas.{size_from-over}
use Rattle.map_elements.proofs.fields.whole.digits_size.Goals as goal

pub returns-then-number : goal.returns-then-number
returns-then-number c = record {
  exact = sym (size_from-over (size_in c.args.digits.now) c.digits.number c.args.digits.now c.digits.digit-index c.digits-test.true
      c.digits.invariant.0
      (omega (arith, c.if-number.true)));
}
