use Rattle.std.proofs.Common.{◌≡◌, ◌≤◌, ◌-◌, length}
use Rattle.item_list.specs.Pages.{numbers_of}
use Rattle.link_hierarchy.specs.Rows.{AreRows}
use Rattle.link_hierarchy.proofs.whole.rows_of.Given as goal

abbrev pub invariant-arcs : goal.invariant-arcs
invariant-arcs l = record {
  on : AreRows l.rows.nodes (numbers_of l.rows.outs.items) (numbers_of l.rows.ins.items) l.arcs l.rows.taken 0;
  nodes : l.rows.nodes ≡ l.nodes;
  within : l.rows.taken ≤ length l.arcs;
}

abbrev pub decreases-arcs : goal.decreases-arcs
decreases-arcs l = length l.arcs - l.rows.taken
