use Rattle.fixed_num.proofs.PrintLemmas.{WritesDecimals}
use Rattle.fixed_num.proofs.text.SixDecimals.prepend_fraction.Given as goal

abbrev pub invariant-loop : goal.invariant-loop
invariant-loop l = WritesDecimals l.fraction l.initial.self l.counter l.rest l.self
