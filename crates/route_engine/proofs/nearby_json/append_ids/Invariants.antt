use Rattle.std.proofs.Common.{◌≡◌, ◌++◌}
use Rattle.route_engine.specs.NearbyAnswers.{near_id}
use Rattle.route_engine.specs.NearbyTexts.{items_behind}
use Rattle.route_engine.proofs.nearby_json.append_ids.Given as goal

abbrev pub invariant-nodes : goal.invariant-nodes
invariant-nodes l =
    l.text.items ++ items_behind (near_id l.map) l.at l.list ≡ l.fn.text.items ++ items_behind (near_id l.map) l.place l.list
