use Rattle.std.proofs.Common.{◌<◌, ℕ, length}
use Rattle.map_cases.proofs.track.are_links.Given as goal
use Rattle.overpass_graph.specs.Walks.{link_at}

abbrev pub invariant-links : goal.invariant-links
invariant-links l = (position : ℕ) → position < l.place → link_at l.walk position < length l.map.links
