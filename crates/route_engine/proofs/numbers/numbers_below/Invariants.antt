use Rattle.std.proofs.Common.{◌≡◌}
use Rattle.route_engine.specs.Numbers.{numbers_below}
use Rattle.route_engine.proofs.numbers.numbers_below.Given as goal

abbrev pub invariant-numbers : goal.invariant-numbers
invariant-numbers l = l.numbers.items ≡ numbers_below l.number
