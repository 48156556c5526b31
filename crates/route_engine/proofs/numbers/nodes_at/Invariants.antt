use Rattle.std.proofs.Common.{◌≡◌, take}
use Rattle.route_engine.specs.Numbers.{nodes_at}
use Rattle.route_engine.proofs.numbers.nodes_at.Given as goal

abbrev pub invariant-numbers : goal.invariant-numbers
invariant-numbers l = l.named.items ≡ nodes_at l.nodes (take l.number-index l.numbers)
