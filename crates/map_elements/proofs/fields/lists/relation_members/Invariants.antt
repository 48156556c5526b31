use Rattle.std.proofs.Common.{length}
use Rattle.map_elements.specs.Entries.{values_of}
use Rattle.map_elements.specs.Fields.{members_from}
use Rattle.map_elements.proofs.ListLemmas.{ReadsOn}
use Rattle.map_elements.proofs.fields.lists.relation_members.Given as goal

abbrev pub invariant-items : goal.invariant-items
invariant-items l = ReadsOn members_from (values_of l.fn.items) l.members (values_of l.left)

abbrev pub decreases-items : goal.decreases-items
decreases-items l = length l.left
