use Rattle.std.proofs.Common.{List, ◌∙◌, subst}
use Rattle.link_hierarchy.specs.Arcs.{Covers}
use Rattle.link_hierarchy.specs.declared.arcs.Arc.{Arc}
use Rattle.ride_bounds.proofs.eliminating.Eliminating.finish.Goals as goal

pub returns : goal.returns
returns c = record {
  is = record {
    counted = c.requires.on.counted;
    turns = c.requires.on.turns;
    covers = subst (λ (l : List Arc). Covers c.finish-topology.result l) c.as_slice.ensures.value c.finish-topology.ensures.covers;
    nodes = c.finish-topology.ensures.nodes ∙ c.requires.on.nodes;
  };
}
