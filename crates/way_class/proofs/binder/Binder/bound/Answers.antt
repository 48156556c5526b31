use Rattle.std.proofs.Common.{◌∙◌, refl, sym, subst, arith}
use Rattle.way_class.specs.Lows.{AreLows}
use Rattle.way_class.proofs.BoundLemmas.{all-free, facts-are, facts-there}
use Rattle.way_class.proofs.StageLemmas.{whole-bound}
use Rattle.way_class.proofs.binder.Binder.bound.Goals as goal

pub invariant_of-result : goal.invariant_of-result
invariant_of-result c = record {
  few = omega (arith, c.requires.whole.rows, c.links-lawful.ensures.lawful.roads.few_links);
  bounded = c.requires.bounded;
  lows_are = subst (λ n. AreLows c.args.self.ways.kept.items.items c.args.self.nodes.kept.items.items c.args.self.rows n
      c.args.self.lows.items) (c.requires.whole.lows ∙ sym c.requires.whole.rows) c.requires.lows;
}

pub returns : goal.returns
returns c = record {
  count = c.requires.whole.rows;
  exact = λ tiles subject parts bound.
      let map = c.args.map.now in
      let b = c.args.self in
      let all = whole-bound subject tiles map b c.links-lawful.ensures.lawful c.requires.whole parts bound in
      record {
        free = all-free subject map b.ways b.nodes all.ways_are all.nodes_are;
        globals_are = refl;
        count = c.requires.whole.rows;
        facts = facts-are subject tiles map b.ways b.nodes b.heights.items b.rows all;
        there = facts-there subject tiles map b.ways b.nodes b.heights.items b.rows all;
      };
}
