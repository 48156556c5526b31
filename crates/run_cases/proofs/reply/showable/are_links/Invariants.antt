use Rattle.std.proofs.Common.{◌<◌, ℕ, length}
use Rattle.overpass_graph.specs.Walks.{link_at}
use Rattle.run_cases.proofs.reply.showable.are_links.Given as goal

abbrev pub invariant-links : goal.invariant-links
invariant-links l = (position : ℕ) → position < l.place → link_at l.walk position < length l.map.links
