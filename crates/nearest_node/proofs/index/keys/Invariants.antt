use Rattle.std.proofs.Common.{◌≡◌}
use Rattle.nearest_node.specs.Index.{keys_below}
use Rattle.nearest_node.specs.Nearest.{place_at}
use Rattle.nearest_node.proofs.index.keys.Given as goal

abbrev pub invariant-nodes : goal.invariant-nodes
invariant-nodes l = l.keys.items ≡ keys_below (place_at l.map) l.node
