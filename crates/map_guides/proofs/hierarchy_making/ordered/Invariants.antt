use Rattle.std.proofs.Common.{◌≡◌, ◌+◌, ◌≤◌, length}
use Rattle.link_order.specs.Orderings.{left_of, links_of}
use Rattle.map_guides.proofs.hierarchy_making.ordered.Given as goal

abbrev pub invariant-steps : goal.invariant-steps
invariant-steps l = (links_of l.ordering ≡ length l.map.links) × (left_of l.ordering + l.step ≤ left_of l.fn.it)
