use Rattle.std.proofs.Common.{◌≤◌, ◌-◌, length}
use Rattle.link_hierarchy.proofs.merge.first_from.Given as goal

abbrev pub invariant-places : goal.invariant-places
invariant-places l = record {
  from : l.start ≤ l.place;
  within : l.place ≤ length l.row;
}

abbrev pub decreases-places : goal.decreases-places
decreases-places l = length l.row - l.place
