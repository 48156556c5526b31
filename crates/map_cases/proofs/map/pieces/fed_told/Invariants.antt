-- No more was fed than is counted.
use Rattle.std.proofs.Common.{◌≤◌}
use Rattle.overpass_graph.specs.Builder.{fed}
use Rattle.map_cases.proofs.map.pieces.fed_told.Given as goal

abbrev pub invariant-words : goal.invariant-words
invariant-words l = fed l.builder ≤ l.most
