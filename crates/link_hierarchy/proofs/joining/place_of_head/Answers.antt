use Rattle.std.proofs.Common.{arith}
use Rattle.link_hierarchy.specs.Topologies.{up_of}
use Rattle.link_hierarchy.proofs.TopologyLemmas.{place-in}
use Rattle.link_hierarchy.proofs.joining.place_of_head.Goals as goal

pub head-requires : goal.head-requires
head-requires c =
    let there = c.requires.joined in
    let inside = place-in (up_of c.args.topology.now) c.nodes-nodes.ensures.lawful.out c.args.low there.place there.is.at in
    record { in_range = omega (arith, inside, c.places.invariant.ahead there.place there.is) }
