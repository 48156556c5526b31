use Rattle.std.proofs.Common.{◌++◌}
use Rattle.std.specs.Fmt.{decimal}
use Rattle.fixed_num.proofs.PrintLemmas.{WritesOn}
use Rattle.fixed_num.proofs.text.SixDecimals.prepend_number.Given as goal

abbrev pub invariant-loop-rest : goal.invariant-loop-rest
invariant-loop-rest l = WritesOn (decimal l.number ++ l.initial.self) l.rest l.self

abbrev pub decreases-loop-rest : goal.decreases-loop-rest
decreases-loop-rest l = l.rest
