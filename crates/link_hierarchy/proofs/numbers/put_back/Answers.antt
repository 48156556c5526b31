use Rattle.std.proofs.Common.{length}
use Rattle.link_hierarchy.proofs.NumberLemmas.{left-none}
use Rattle.link_hierarchy.proofs.numbers.put_back.Goals as goal

pub returns : goal.returns
returns c = record {
  value = left-none c.args.rest (length c.args.items.now.items) c.args.touched.now c.places.place c.places.items.items c.places-test.false c.places.invariant;
}
