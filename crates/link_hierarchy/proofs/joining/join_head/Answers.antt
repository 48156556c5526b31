use Rattle.std.proofs.Common.{sym, arith}
use Rattle.link_hierarchy.specs.Topologies.{IsPair, up_of}
use Rattle.link_hierarchy.proofs.TopologyLemmas.{place-in}
use Rattle.link_hierarchy.proofs.JoinLemmas.{stop-down}
use Rattle.link_hierarchy.proofs.joining.join_head.Goals as goal

pub head-requires : goal.head-requires
head-requires c =
    record { in_range = place-in (up_of c.args.topology.now) c.nodes-nodes.ensures.lawful.out c.args.node c.args.second c.requires.in_range }

pub in_start-place-requires : goal.in_start-place-requires
in_start-place-requires c =
    let pair : IsPair (up_of c.args.topology.now) c.args.node c.head.result c.args.second =
    record { at = c.requires.in_range; is = sym c.head.ensures.value } in
    record { in_range = c.nodes-nodes.ensures.lawful.out.within c.args.node c.head.result c.args.second pair }

pub returns : goal.returns
returns c = record {
  customized = stop-down c.args.topology.now c.nodes-nodes.ensures.lawful c.args._arcs.now c.args.node c.places.weights c.places.first c.args.second c.args._tail 0
      (omega (arith, c.in_end-first-end.ensures.value, c.places-test.false)) c.places.invariant.customized;
}
