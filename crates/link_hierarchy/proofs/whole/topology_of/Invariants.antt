use Rattle.std.proofs.Common.{◌≡◌}
use Rattle.link_hierarchy.specs.Eliminations.{IsElimination, left_of}
use Rattle.link_hierarchy.proofs.whole.topology_of.Given as goal

abbrev pub invariant-steps : goal.invariant-steps
invariant-steps l = record {
  on : IsElimination l.arcs l.made;
  nodes : l.made.rows.nodes ≡ l.nodes;
}

abbrev pub decreases-steps : goal.decreases-steps
decreases-steps l = left_of l.made
