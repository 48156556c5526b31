use Rattle.std.proofs.Common.{◌+◌, subst, arith, drop, ℕ}
use Rattle.fixed_num.proofs.DigitLemmas.{CountsOn, CountsOn-more}
use Rattle.fixed_num.proofs.decimal.capped_number.Goals as goal

pub loop-digit-preserved : goal.loop-digit-preserved
loop-digit-preserved c =
    subst (λ (n : ℕ). CountsOn c.args.before c.args.digits.now n (drop (c.loop-digit.digit-index + 1) c.args.digits.now)) (omega arith)
    (CountsOn-more c.args.before c.args.digits.now c.loop-digit.number c.loop-digit.digit-index
    c.loop-digit-test.true c.loop-digit.invariant)
