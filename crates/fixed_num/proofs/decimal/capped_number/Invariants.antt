use Rattle.std.proofs.Common.{drop}
use Rattle.fixed_num.proofs.DigitLemmas.{CountsOn}
use Rattle.fixed_num.proofs.decimal.capped_number.Given as goal

abbrev pub invariant-loop-digit : goal.invariant-loop-digit
invariant-loop-digit l = CountsOn l.before l.digits l.number (drop l.digit-index l.digits)
