use Rattle.std.proofs.Common.{List, length}
use Rattle.map_elements.specs.Entries.{Entry}
use Rattle.map_elements.specs.Noted.{Noted}
use Rattle.map_elements.proofs.fields.element.Slots.note_all.Given as goal

abbrev pub invariant-entries : goal.invariant-entries
invariant-entries l = (all : List Entry) → Noted l.fn.self all l.fn.entries → Noted l.self all l.left

abbrev pub decreases-entries : goal.decreases-entries
decreases-entries l = length l.left
