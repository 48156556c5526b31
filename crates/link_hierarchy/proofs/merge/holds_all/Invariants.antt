use Rattle.std.proofs.Common.{ℕ, ◌<◌, ◌≤◌, ◌-◌, length, get_or}
use Rattle.link_hierarchy.specs.Rows.{Holds}
use Rattle.link_hierarchy.proofs.merge.holds_all.Given as goal

abbrev pub invariant-nodes : goal.invariant-nodes
invariant-nodes l = record {
  within : l.i ≤ length l.into;
  most : l.j ≤ length l.from;
  held : (k : ℕ) → k < l.j → k < length l.from → l.low < get_or l.from k 0 → Holds l.into (get_or l.from k 0);
}

abbrev pub decreases-nodes : goal.decreases-nodes
decreases-nodes l = length l.from - l.j
