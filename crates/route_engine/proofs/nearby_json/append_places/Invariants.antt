use Rattle.std.proofs.Common.{◌≡◌, ◌++◌}
use Rattle.route_engine.specs.NearbyAnswers.{near_position}
use Rattle.route_engine.specs.NearbyTexts.{items_behind}
use Rattle.route_engine.specs.Told.{source_by}
use Rattle.route_ready.specs.World.{world_of}
use Rattle.route_engine.proofs.nearby_json.append_places.Given as goal

abbrev pub invariant-places : goal.invariant-places
invariant-places l =
    l.text.items ++ items_behind (near_position (source_by (world_of l.world) l._ready l._told)) l.at l.list
    ≡ l.fn.text.items ++ items_behind (near_position (source_by (world_of l.world) l._ready l._told)) l.place l.list
