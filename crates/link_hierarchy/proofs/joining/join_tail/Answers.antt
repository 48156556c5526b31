use Rattle.std.proofs.Common.{sym, arith}
use Rattle.link_hierarchy.specs.Topologies.{IsPair, into_of}
use Rattle.link_hierarchy.proofs.TopologyLemmas.{place-in}
use Rattle.link_hierarchy.proofs.JoinLemmas.{stop-up}
use Rattle.link_hierarchy.proofs.joining.join_tail.Goals as goal

pub tail-requires : goal.tail-requires
tail-requires c =
    record { in_range = place-in (into_of c.args.topology.now) c.nodes-nodes.ensures.lawful.into c.args.node c.args.first c.requires.in_range }

pub out_start-place-requires : goal.out_start-place-requires
out_start-place-requires c =
    let pair : IsPair (into_of c.args.topology.now) c.args.node c.tail.result c.args.first =
    record { at = c.requires.in_range; is = sym c.tail.ensures.value } in
    record { in_range = c.nodes-nodes.ensures.lawful.into.within c.args.node c.tail.result c.args.first pair }

pub returns : goal.returns
returns c = record {
  customized = stop-up c.args.topology.now c.nodes-nodes.ensures.lawful c.args._arcs.now c.args.node c.places.weights c.args.first c.places.second c.args._head 0
      (omega (arith, c.out_end-second-end.ensures.value, c.places-test.false)) c.places.invariant.customized;
}
