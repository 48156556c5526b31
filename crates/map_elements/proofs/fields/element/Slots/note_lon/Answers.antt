-- Up to the longitude.
use Rattle.std.proofs.Common.{refl}
use Rattle.map_elements.proofs.NotedLemmas.{front_lon}
use Rattle.map_elements.proofs.fields.element.Slots.note_lon.Goals as goal
use Rattle.map_elements.specs.declared.front.Front.TheVariants as front_

pub returns : goal.returns
returns c = record {
  value = front_lon front_.Lon refl c.args.left.now c.note_plain.new.left c.note_plain-2.new.left c.note_plain-3.new.left
      c.note_named.new.left c.args.self.now c.note_plain.new.self c.note_plain-2.new.self c.note_plain-3.new.self c.note_named.new.self
      c.requires.none c.requires.fits c.note_plain.ensures.value c.note_plain-2.ensures.value c.note_plain-3.ensures.value
      c.note_named.ensures.value;
}
