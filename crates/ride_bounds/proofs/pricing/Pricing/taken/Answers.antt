use Rattle.std.proofs.Common.{List, subst}
use Rattle.overpass_graph.specs.Maps.{roads_of}
use Rattle.link_hierarchy.specs.Customizing.{IsCustomization}
use Rattle.link_hierarchy.specs.declared.arcs.Arc.{Arc}
use Rattle.ride_bounds.proofs.PriceLemmas.{prices-end}
use Rattle.ride_bounds.proofs.pricing.Pricing.taken.Goals as goal

pub returns : goal.returns
returns g c = record {
  on = record {
    priced = prices-end (roads_of c.args._map.now) (g.F.FactsOf.links c.args._facts.now).facts c.args.hierarchy.now.order
        c.args.hierarchy.now.turns.items c.requires.is.turns c.args.self.next c.args.self.priced.items c.requires.on c.requires.all;
    made = subst (λ (l : List Arc). IsCustomization c.args.hierarchy.now.topology l c.in_ok-made.made) c.as_slice.ensures.value
        c.in_ok-made.ensures.on;
  };
}
