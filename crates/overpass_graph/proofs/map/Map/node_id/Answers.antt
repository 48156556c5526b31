use Rattle.std.proofs.Common.{◌∙◌, arith}
use mir.Val.{SFits}
use mir.Syntax.{w64}
use Rattle.std.proofs.lemmas.Int.{to_z-of_z}
use Rattle.overpass_graph.proofs.MapLemmas.{node-place, node-within}
use Rattle.overpass_graph.proofs.map.Map.node_id.Goals as goal

pub index-requires : goal.index-requires
index-requires c =
    omega (arith, node-within _ _ _ _ _ _ c.args.self.now c.self.invariant c.self.view_is, c.self.inside.order.places.ok.0)

pub node_id-requires : goal.node_id-requires
node_id-requires c =
    let at = node-place _ _ _ _ _ _ c.args.self.now c.self.invariant c.self.view_is c.args.node c.index.result.now c.requires.in_range
    c.index.ensures in
    record { fits = at.below }

pub returns : goal.returns
returns c =
    let at = node-place _ _ _ _ _ _ c.args.self.now c.self.invariant c.self.view_is c.args.node c.index.result.now c.requires.in_range
    c.index.ensures in
    let fits : SFits w64 c.node_id.result = record { sfits = c.node_id.type_inv } in
    record { value = to_z-of_z w64 c.node_id.result fits ∙ c.node_id.ensures.value _ at.there }
