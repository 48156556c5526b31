use Rattle.std.proofs.Common.{length}
use Rattle.map_elements.specs.Entries.{values_of}
use Rattle.map_elements.specs.Fields.{whole_numbers_of}
use Rattle.map_elements.proofs.ListLemmas.{ReadsOn}
use Rattle.map_elements.proofs.fields.lists.whole_numbers.Given as goal

abbrev pub invariant-items : goal.invariant-items
invariant-items l = ReadsOn whole_numbers_of (values_of l.fn.items) l.numbers (values_of l.left)

abbrev pub decreases-items : goal.decreases-items
decreases-items l = length (values_of l.left)
