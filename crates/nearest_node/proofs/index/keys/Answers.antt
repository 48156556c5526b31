use Rattle.nearest_node.specs.Nearest.{place_at}
use Rattle.nearest_node.proofs.IndexLemmas.{keys-pushed}
use Rattle.nearest_node.proofs.index.keys.Goals as goal

pub nodes-preserved : goal.nodes-preserved
nodes-preserved c =
    keys-pushed (place_at c.args.map.now) c.nodes.node c.nodes.keys.items c.push.new.self.items c.key.result _ c.nodes.invariant
    c.node_spot.ensures.value c.key.ensures.exact c.in_ok-push.ensures.items
