use Rattle.std.proofs.Common.{◌≤◌, ◌-◌, ◌+◌, length}
use Rattle.link_hierarchy.proofs.merge.first_shared.Given as goal

abbrev pub invariant-nodes : goal.invariant-nodes
invariant-nodes l = record {
  left : l.i ≤ length l.a;
  right : l.j ≤ length l.b;
}

abbrev pub decreases-nodes : goal.decreases-nodes
decreases-nodes l = (length l.a - l.i) + (length l.b - l.j)
