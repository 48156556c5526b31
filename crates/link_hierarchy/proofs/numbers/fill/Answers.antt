use Rattle.std.proofs.Common.{length, arith}
use Rattle.link_hierarchy.proofs.NumberLemmas.{first-all}
use Rattle.link_hierarchy.proofs.numbers.fill.Goals as goal

pub returns : goal.returns
returns c = record {
  value = first-all c.args.number (length c.args.items.now.items) c.places.place c.places.items.items (omega (arith, c.places-test.false, c.len-place-end.ensures, c.args.items.now.ok.0)) c.places.invariant;
}
