use Rattle.std.proofs.Common.{◌≡◌, ◌++◌, drop}
use Rattle.route_engine.specs.NearbyAnswers.{nearby_text}
use Rattle.route_engine.proofs.nearby_lines.append_lines.Given as goal

abbrev pub invariant-nodes : goal.invariant-nodes
invariant-nodes l =
    l.text.items ++ nearby_text l.map l.number (drop l.at l.list) ≡ l.fn.text.items ++ nearby_text l.map l.number (drop l.place l.list)
