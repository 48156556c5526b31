use Rattle.std.proofs.Common.{◌≡◌, length}
use Rattle.overpass_graph.specs.Restrictions.{names_bicycle, pieces}
use Rattle.overpass_graph.proofs.texts.names_bicycle.Given as goal

abbrev pub invariant-pieces : goal.invariant-pieces
invariant-pieces l = names_bicycle (pieces l.rest) ≡ names_bicycle (pieces l.text)

abbrev pub decreases-pieces : goal.decreases-pieces
decreases-pieces l = length l.rest
