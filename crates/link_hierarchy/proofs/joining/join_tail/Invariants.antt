use Rattle.link_hierarchy.specs.Customizing.{AreCustomized, IsAhead}
use Rattle.link_hierarchy.specs.Topologies.{head_of, into_of, up_of}
use Rattle.link_hierarchy.proofs.joining.join_tail.Given as goal

abbrev pub invariant-places : goal.invariant-places
invariant-places l = record {
  customized : AreCustomized l.topology l.weights l._arcs l.node l.first l.second l._head 0;
  ahead : IsAhead (up_of l.topology) l.node (head_of (into_of l.topology) l.first) l.second l.place;
}
