use Rattle.link_order.specs.Orderings.{OrdersOn}
use Rattle.link_order.proofs.ordering.Ordering.advance.Given as goal

abbrev pub invariant-pieces : goal.invariant-pieces
invariant-pieces l = OrdersOn l.fn.self l.self
