use Rattle.std.proofs.Common.{◌≡◌, ◌++◌}
use Rattle.route_engine.specs.NearbyAnswers.{near_cost}
use Rattle.route_engine.specs.NearbyTexts.{items_behind}
use Rattle.route_engine.proofs.nearby_json.append_sums.Given as goal

abbrev pub invariant-costs : goal.invariant-costs
invariant-costs l = l.text.items ++ items_behind near_cost l.at l.list ≡ l.fn.text.items ++ items_behind near_cost l.place l.list
