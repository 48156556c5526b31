use Rattle.std.proofs.Common.{◌≡◌, ◌∙◌, ℕ, List, ap, sym, subst}
use Rattle.overpass_graph.specs.Maps.{MapValue, roads_of}
use Rattle.link_hierarchy.specs.Rows.{IsSorted}
use Rattle.link_hierarchy.specs.Topologies.{IsTopology}
use Rattle.link_order.specs.Orders.{IsOrder}
use Rattle.ride_bounds.specs.Bounds.{targets_of}
use Rattle.ride_bounds.specs.declared.hierarchy.MapHierarchy.{MapHierarchy}
use Rattle.ride_bounds.proofs.BoundLemmas.{targets-sorted}
use Rattle.ride_bounds.proofs.leg_bound.LegBound.retarget.Goals as goal

pub retarget-requires-clause-targets : goal.retarget-requires-clause-targets
retarget-requires-clause-targets g c =
    let terrain = g.G.TerrainOf.terrain c.args.terrain.now in
    let guide = c.args.guide.now in
    let found : c.as_slice.result.now ≡ targets_of guide.hierarchy.value.order (roads_of terrain.map) c.args.target =
    c.as_slice.ensures.value ∙ c.in_ok-targets.ensures.value
    ∙ ap (λ (h : MapHierarchy). targets_of h.order (roads_of c.map.result.now) c.args.target) c.deref-hierarchy.ensures
    ∙ ap (λ (m : MapValue). targets_of guide.hierarchy.value.order (roads_of m) c.args.target) c.map.ensures.value in
    subst (λ (h : MapHierarchy). IsSorted h.topology.nodes c.as_slice.result.now) (sym c.deref-hierarchy.ensures)
    (subst (λ (l : List ℕ). IsSorted guide.hierarchy.value.topology.nodes l) (sym found)
    (targets-sorted (roads_of terrain.map) terrain.links.facts guide.hierarchy.value guide.weights c.args.target c.requires.fits.hierarchy
    c.requires.fits.weights
    (subst (λ (h : MapHierarchy). IsTopology h.topology) c.deref-hierarchy.ensures c.nodes-nodes.ensures.lawful)
    (subst (λ (h : MapHierarchy). IsOrder h.order) c.deref-hierarchy.ensures c.len-places.ensures.lawful)))
