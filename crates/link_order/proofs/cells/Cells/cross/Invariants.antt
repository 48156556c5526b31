use Rattle.std.proofs.Common.{◌≡◌, length}
use Rattle.link_order.proofs.cells.Cells.cross.Given as goal

abbrev pub invariant-arcs : goal.invariant-arcs
invariant-arcs l = length l.placing.order.links ≡ length l.fn.placing.order.links
