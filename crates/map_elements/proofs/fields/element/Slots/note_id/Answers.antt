-- Up to the id.
use Rattle.std.proofs.Common.{refl}
use Rattle.map_elements.proofs.NotedLemmas.{front_id}
use Rattle.map_elements.proofs.fields.element.Slots.note_id.Goals as goal
use Rattle.map_elements.specs.declared.front.Front.TheVariants as front_

pub returns : goal.returns
returns c = record {
  value = front_id front_.Id refl c.args.left.now c.note_plain.new.left c.note_named.new.left c.args.self.now c.note_plain.new.self
      c.note_named.new.self c.requires.none c.requires.fits c.note_plain.ensures.value c.note_named.ensures.value;
}
