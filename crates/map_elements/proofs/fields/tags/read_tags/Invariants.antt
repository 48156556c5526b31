use Rattle.std.proofs.Common.{length}
use Rattle.map_elements.specs.Names.{Holds}
use Rattle.map_elements.proofs.TagLemmas.{Tagged}
use Rattle.map_elements.proofs.fields.tags.read_tags.Given as goal

abbrev pub invariant-members : goal.invariant-members
invariant-members l = Tagged (Holds l.names) l.fn.members l.tags l.left

abbrev pub decreases-members : goal.decreases-members
decreases-members l = length l.left
