use Rattle.std.proofs.Common.{sym, subst}
use Rattle.overpass_graph.specs.Maps.{roads_of}
use Rattle.link_order.specs.Orders.{IsOrder}
use Rattle.link_hierarchy.specs.Topologies.{IsTopology}
use Rattle.ride_bounds.specs.declared.hierarchy.MapHierarchy.{MapHierarchy}
use Rattle.ride_bounds.proofs.CallerLemmas.{bound-paid, least-turns, link-bound}
use Rattle.ride_bounds.proofs.guide.Guide.is_lawful.Goals as goal

pub returns : goal.returns
returns g c =
    -- named so that they are checked with this crate, since only crates above cite them
    let paid = bound-paid in
    let least = least-turns in
    let terrain = g.G.TerrainOf.terrain c.args._terrain.now in
    let guide = c.args.self.now in
    record {
      lawful = λ target.
          link-bound (roads_of terrain.map) terrain.links.facts guide.hierarchy.value guide.weights target
          c.requires.fits.hierarchy c.requires.fits.weights
          (subst (λ (h : MapHierarchy). IsTopology h.topology) c.deref-hierarchy.ensures c.nodes-nodes.ensures.lawful)
          (subst (λ (h : MapHierarchy). IsOrder h.order) c.deref-hierarchy.ensures c.len-places.ensures.lawful);
    }
