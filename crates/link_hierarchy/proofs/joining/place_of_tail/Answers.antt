use Rattle.std.proofs.Common.{arith}
use Rattle.link_hierarchy.specs.Topologies.{into_of}
use Rattle.link_hierarchy.proofs.TopologyLemmas.{place-in}
use Rattle.link_hierarchy.proofs.joining.place_of_tail.Goals as goal

pub tail-requires : goal.tail-requires
tail-requires c =
    let there = c.requires.joined in
    let inside = place-in (into_of c.args.topology.now) c.nodes-nodes.ensures.lawful.into c.args.low there.place there.is.at in
    record { in_range = omega (arith, inside, c.places.invariant.ahead there.place there.is) }
