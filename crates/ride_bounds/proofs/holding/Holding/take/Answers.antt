use Rattle.std.proofs.Common.{List, sym, subst}
use Rattle.link_hierarchy.specs.Arcs.{AreWithin}
use Rattle.link_hierarchy.specs.declared.arcs.Arc.{Arc}
use Rattle.overpass_graph.specs.Maps.{roads_of}
use Rattle.ride_bounds.proofs.TurnLemmas.{turns-within}
use Rattle.ride_bounds.proofs.holding.Holding.take.Goals as goal

pub take-requires-clause-in_range : goal.take-requires-clause-in_range
take-requires-clause-in_range c =
    subst (λ (l : List Arc). AreWithin c.args.self.now.rows.nodes l) (sym c.as_slice.ensures.value)
    (turns-within (roads_of c.args._map.now) c.args.self.now.order c.args.self.now.turns.items c.args.self.now.rows.nodes c.requires.on.nodes
    c.requires.on.turns)
