use Rattle.std.proofs.Common.{◌≡◌, ◌≤◌, take, length}
use Rattle.overpass_graph.specs.Restrictions.{without_end}
use Rattle.overpass_graph.proofs.texts.without_end.Given as goal

abbrev pub invariant-end : goal.invariant-end
invariant-end l = record { within : l.end ≤ length l.text; same : without_end (take l.end l.text) ≡ without_end l.text }

abbrev pub decreases-end : goal.decreases-end
decreases-end l = l.end
