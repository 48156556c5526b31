use Rattle.std.proofs.Common.{◌-◌}
use Rattle.overpass_graph.proofs.WeightLemmas.{IsHalving}
use Rattle.overpass_graph.proofs.names.place_of.Given as goal

abbrev pub invariant-halving : goal.invariant-halving
invariant-halving l = IsHalving l.links.links l.wanted l.low l.high

abbrev pub decreases-halving : goal.decreases-halving
decreases-halving l = l.high - l.low
