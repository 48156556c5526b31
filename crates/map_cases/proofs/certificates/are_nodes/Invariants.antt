use Rattle.std.proofs.Common.{ℕ, ◌<◌, get_or, length}
use Rattle.map_cases.proofs.certificates.are_nodes.Given as goal

abbrev pub invariant-nodes : goal.invariant-nodes
invariant-nodes l = (k : ℕ) → k < l.place → get_or l.nodes k 0 < length l.map.nodes
