-- Up to the latitude.
use Rattle.std.proofs.Common.{refl}
use Rattle.map_elements.proofs.NotedLemmas.{front_lat}
use Rattle.map_elements.proofs.fields.element.Slots.note_lat.Goals as goal
use Rattle.map_elements.specs.declared.front.Front.TheVariants as front_

pub returns : goal.returns
returns c = record {
  value = front_lat front_.Lat refl c.args.left.now c.note_plain.new.left c.note_plain-2.new.left c.note_named.new.left c.args.self.now
      c.note_plain.new.self c.note_plain-2.new.self c.note_named.new.self c.requires.none c.requires.fits c.note_plain.ensures.value
      c.note_plain-2.ensures.value c.note_named.ensures.value;
}
