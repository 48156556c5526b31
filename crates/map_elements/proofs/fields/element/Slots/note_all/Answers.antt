use Rattle.map_elements.proofs.NotedLemmas.{slots_more}
use Rattle.map_elements.proofs.fields.element.Slots.note_all.Goals as goal

pub entries-preserved : goal.entries-preserved
entries-preserved c =
    λ all noted.
    slots_more all c.entries.left c.next.new.self c.entries.self c.note.new.self c.in-Some.entry c.in-Some.ensures.value
    c.note.ensures.value (c.entries.invariant all noted)
