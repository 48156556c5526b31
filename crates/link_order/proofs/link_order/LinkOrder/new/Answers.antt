use Rattle.std.proofs.Common.{arith}
use Rattle.link_order.proofs.OrderLemmas.{ascending-order}
use Rattle.link_order.proofs.link_order.LinkOrder.new.Goals as goal

pub invariant_of-result : goal.invariant_of-result
invariant_of-result c =
    ascending-order c.args.count c.in_ok-links.links.items c.in_ok-places.places.items (omega arith) c.in_ok-links.ensures.value c.in_ok-places.ensures.value
