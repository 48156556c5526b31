use Rattle.std.proofs.Common.{arith}
use Rattle.overpass_graph.proofs.MapLemmas.{node-place, node-within}
use Rattle.overpass_graph.proofs.map.Map.node_tags.Goals as goal

pub index-requires : goal.index-requires
index-requires c =
    omega (arith, node-within _ _ _ _ _ _ c.args.self.now c.self.invariant c.self.view_is, c.self.inside.order.places.ok.0)

pub node_tags-requires : goal.node_tags-requires
node_tags-requires c =
    let at = node-place _ _ _ _ _ _ c.args.self.now c.self.invariant c.self.view_is c.args.node c.index.result.now c.requires.in_range
    c.index.ensures in
    record { fits = at.below }

pub returns : goal.returns
returns c =
    let at = node-place _ _ _ _ _ _ c.args.self.now c.self.invariant c.self.view_is c.args.node c.index.result.now c.requires.in_range
    c.index.ensures in
    record { value = c.node_tags.ensures.value _ at.there }
