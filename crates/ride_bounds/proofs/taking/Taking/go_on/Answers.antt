use Rattle.std.proofs.Common.{List, sym, subst}
use Rattle.overpass_graph.specs.Maps.{roads_of}
use Rattle.link_hierarchy.specs.Arcs.{Covers}
use Rattle.link_hierarchy.specs.declared.arcs.Arc.{Arc}
use Rattle.ride_bounds.proofs.PriceLemmas.{prices-covered}
use Rattle.ride_bounds.proofs.taking.Taking.go_on.Goals as goal

pub take-requires-clause-covers : goal.take-requires-clause-covers
take-requires-clause-covers g c =
    subst (λ (l : List Arc). Covers c.args.hierarchy.now.topology l) (sym c.as_slice-then-not-has_all.ensures.value)
    (prices-covered (roads_of c.args._map.now) (g.F.FactsOf.links c.args._facts.now).facts c.args.hierarchy.now.order
    c.args.hierarchy.now.turns.items c.requires.is.turns c.args.hierarchy.now.topology c.args.self.now.priced.items c.requires.on.priced
    c.requires.is.covers)
