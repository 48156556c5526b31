use Rattle.std.proofs.Common.{◌∙◌}
use Rattle.overpass_graph.proofs.PairLemmas.{group-leaves}
use Rattle.overpass_graph.proofs.pairs.Links.leaving.Goals as goal

pub returns : goal.returns
returns c = record {
  value = c.group.ensures.value
      ∙ group-leaves c.self.inside.ends.groups c.self.inside.ends.keys c.self.inside.pieces.items c.args.self.now c.self.invariant
      c.self.view_is c.args.node;
}
