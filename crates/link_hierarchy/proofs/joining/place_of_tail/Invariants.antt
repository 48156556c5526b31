use Rattle.std.proofs.Common.{◌+◌, ◌-◌, ◌≤◌, ℕ}
use Rattle.link_hierarchy.specs.Topologies.{IsPair, start_of, into_of}
use Rattle.link_hierarchy.proofs.joining.place_of_tail.Given as goal

abbrev pub invariant-places : goal.invariant-places
invariant-places l = record {
  from_start : start_of (into_of l.topology) l.low ≤ l.place;
  ahead : (k : ℕ) → IsPair (into_of l.topology) l.low l.high k → l.place ≤ k;
}

abbrev pub decreases-places : goal.decreases-places
decreases-places l = start_of (into_of l.topology) (l.low + 1) - l.place
