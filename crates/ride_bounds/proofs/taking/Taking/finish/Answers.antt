use Rattle.std.proofs.Common.{List, subst}
use Rattle.overpass_graph.specs.Maps.{roads_of}
use Rattle.link_hierarchy.specs.Arcs.{arcs_of}
use Rattle.link_hierarchy.specs.Hierarchies.{Carries}
use Rattle.link_hierarchy.specs.Topologies.{edges_of}
use Rattle.link_hierarchy.specs.declared.arcs.Arc.{Arc}
use Rattle.link_hierarchy.specs.declared.limits.TheConstants.{FAR}
use Rattle.ride_bounds.specs.Arcs.{IsRideArc}
use Rattle.ride_bounds.proofs.ArcLemmas.{carries-other}
use Rattle.ride_bounds.proofs.taking.Taking.finish.Goals as goal

pub returns : goal.returns
returns g c = record {
  are = record {
    fits = c.finish.ensures.fits;
    closed = c.finish.ensures.closed;
    carries = carries-other FAR (arcs_of c.args.self.priced.items)
        (IsRideArc (roads_of c.args._map.now) (g.F.FactsOf.links c.args._facts.now).facts c.args.hierarchy.now.order)
        (edges_of FAR c.args.hierarchy.now.topology c.finish.result) c.requires.on.priced.only c.requires.on.priced.all
        (subst (λ (l : List Arc). Carries FAR (arcs_of l) (edges_of FAR c.args.hierarchy.now.topology c.finish.result))
        c.as_slice.ensures.value c.finish.ensures.carries);
  };
}
