use Rattle.std.proofs.Common.{◌≡◌, drop}
use Rattle.overpass_graph.specs.Restrictions.{is_in}
use Rattle.overpass_graph.proofs.turns.has.Given as goal

abbrev pub invariant-ways : goal.invariant-ways
invariant-ways l = is_in l.way (drop l.other-index l.ways) ≡ is_in l.way l.ways
