use Rattle.std.proofs.Common.{◌≡◌, ◌∙◌, ℕ, List, Option, ap}
use Rattle.overpass_graph.specs.Maps.{roads_of}
use Rattle.link_hierarchy.specs.LeastSums.{least_sum_of}
use Rattle.link_order.specs.Orders.{place_of}
use Rattle.ride_bounds.specs.Bounds.{bound_of, millionths_of, targets_of}
use Rattle.ride_bounds.specs.declared.hierarchy.MapHierarchy.{MapHierarchy}
use Rattle.ride_bounds.proofs.leg_bound.LegBound.at.Goals as goal

pub returns-clause-value : goal.returns-clause-value
unfolding bound_of
returns-clause-value g c =
    let guide = c.args.guide.now in
    let held = guide.hierarchy.value in
    let roads = roads_of (g.G.TerrainOf.terrain c.args._terrain.now).map in
    let told : MapHierarchy → List ℕ → ℕ → Option ℕ = λ h targets place.
    millionths_of (least_sum_of h.topology guide.weights targets place) in
    let seen = c.deref-hierarchy.result.now in
    let found = c.args.self.now.found.targets.items in
    c.millionths.ensures.value
    ∙ ap millionths_of c.in_ok-sum.ensures.value
    ∙ ap (told seen found) c.place-place.ensures.value
    ∙ ap (λ (h : MapHierarchy). told h found (place_of h.order c.args.link)) c.deref-hierarchy.ensures
    ∙ ap (λ (l : List ℕ). told held l (place_of held.order c.args.link)) c.requires.on.targets
