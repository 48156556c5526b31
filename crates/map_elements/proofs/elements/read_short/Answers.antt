-- The node of four plain values.
use Rattle.std.proofs.Common.{rules, sym, refl}
use Rattle.map_elements.specs.declared.front.Front.TheVariants as front_
use Rattle.map_elements.specs.Front.{told}
use Rattle.map_elements.specs.Elements.{element_of}
use Rattle.map_elements.proofs.ShortLemmas.{short_is, node_answers}
use Rattle.map_elements.proofs.elements.read_short.Goals as goal

pub returns : goal.returns
returns c = record {
  exact = λ at.
      node_answers c.node_with.result (element_of at (told front_.Lon c.args.left.now)) c.new.result c.in_ok-id.id c.in_ok-lat.lat.now c.in_ok-lon.lon.now c.new.ensures.value
      (short_is c.args.left.now c.again-left.result c.take_one-kind.new.self c.take_one-id.new.self c.take_one-lat.new.self
      c.take_one-lon.new.self c.take_one-kind.result c.take_one-id.result c.take_one-lat.result c.take_one-lon.result c.in_ok-id.id
      c.in_ok-lat.lat.now c.in_ok-lon.lon.now c.requires.short c.requires.fits c.again-left.ensures.value
      c.take_one-kind.ensures.value c.take_one-id.ensures.value c.take_one-lat.ensures.value c.take_one-lon.ensures.value
      (c.if-not-is_last.ensures.value refl) (c.if-not-is_node.ensures.value refl) (sym c.in_ok-id.ensures.exact)
      c.in_ok-lat.ensures.exact c.in_ok-lon.ensures.exact at)
      (search rules);
}
