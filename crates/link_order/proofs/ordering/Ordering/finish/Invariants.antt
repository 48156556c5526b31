use Rattle.std.proofs.Common.{◌≡◌}
use Rattle.link_order.specs.Orderings.{left_of, links_of}
use Rattle.link_order.proofs.ordering.Ordering.finish.Given as goal

abbrev pub invariant-steps : goal.invariant-steps
invariant-steps l = links_of l.ordering ≡ links_of l.fn.self

abbrev pub decreases-steps : goal.decreases-steps
decreases-steps l = left_of l.ordering
