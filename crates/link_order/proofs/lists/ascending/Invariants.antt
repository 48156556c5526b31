use Rattle.link_order.specs.Orders.{AreAscending}
use Rattle.link_order.proofs.lists.ascending.Given as goal

abbrev pub invariant-numbers : goal.invariant-numbers
invariant-numbers l = AreAscending l.number l.made.items
