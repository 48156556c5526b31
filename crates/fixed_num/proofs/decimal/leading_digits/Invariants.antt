use Rattle.std.proofs.Common.{◌≡◌, ◌+◌, drop}
use Rattle.fixed_num.specs.Decimal.{leading_digits}
use Rattle.fixed_num.proofs.decimal.leading_digits.Given as goal

abbrev pub invariant-loop-i : goal.invariant-loop-i
invariant-loop-i l = leading_digits l.text ≡ l.i + leading_digits (drop l.i l.text)
