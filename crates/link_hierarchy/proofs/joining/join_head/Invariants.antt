use Rattle.link_hierarchy.specs.Customizing.{AreCustomized, IsAhead}
use Rattle.link_hierarchy.specs.Topologies.{head_of, into_of, up_of}
use Rattle.link_hierarchy.proofs.joining.join_head.Given as goal

abbrev pub invariant-places : goal.invariant-places
invariant-places l = record {
  customized : AreCustomized l.topology l.weights l._arcs l.node l._tail 0 l.second l.first;
  ahead : IsAhead (into_of l.topology) l.node (head_of (up_of l.topology) l.second) l.first l.place;
}
