-- What was fed is counted.
use Rattle.std.proofs.Common.{◌≡◌}
use Rattle.overpass_graph.specs.Builder.{fed}
use Rattle.map_cases.proofs.timed.maps.feed_all.Given as goal

abbrev pub invariant-pieces : goal.invariant-pieces
invariant-pieces l = fed l.builder ≡ l.total
