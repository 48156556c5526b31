use Rattle.std.proofs.Common.{◌≡◌, length}
use Rattle.map_cases.proofs.bounds.numbers.Given as goal

abbrev pub invariant-numbers : goal.invariant-numbers
invariant-numbers l = length l.made.items ≡ l.number
