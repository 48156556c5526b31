-- The member of a name whose value comes.
use Rattle.std.proofs.Common.{zero, [], None, Some}
use Rattle.map_elements.specs.Entries.{entries_from}
use Rattle.map_elements.proofs.NotedLemmas.{slots_more}
use Rattle.map_elements.proofs.fields.element.Slots.note_named.Goals as goal

pub returns-in-Some : goal.returns-in-Some
returns-in-Some c = record {
  value = λ all noted.
      slots_more all (entries_from (Some c.args.name.now) [] zero c.args.left.now) (entries_from None [] zero c.take_named.new.left)
      c.args.self.now c.note.new.self c.in-Some.entry c.in-Some.ensures.value c.note.ensures.value noted;
}
