use Rattle.std.proofs.Common.{◌≡◌, List, length, sym, subst, arith}
use Rattle.way_class.specs.Bound.{AreRows, Columns}
use Rattle.way_class.specs.Lows.{AreLows}
use Rattle.way_class.specs.declared.charge.NodeClass.{NodeClass}
use Rattle.way_class.specs.declared.side.WayClass.{WayClass}
use Rattle.way_class.proofs.StageLemmas.{links-whole, links-within, links-works, lows-before, rows-before}
use Rattle.way_class.proofs.binder.Binder.more_links.Goals as goal

pub more_lows-requires-clause-few : goal.more_lows-requires-clause-few
more_lows-requires-clause-few c =
    omega (arith, c.in_ok-left-2.ensures.advances.within, c.in_ok-left-2.ensures.lawful.roads.few_links)

pub returns-clause-within : goal.returns-clause-within
returns-clause-within c =
    links-within c.args.map.now c.args.self.now c.more_heights.new.heights c.args.budget c.in_ok-left.left
    c.requires.within c.requires.classes c.in_ok-left.ensures.advances c.in_ok-left.ensures.same
    c.in_ok-left.ensures.whole c.more_rows.new.rows c.in_ok-left-2.left c.in_ok-left-2.ensures.advances
    c.in_ok-left-2.ensures.same c.in_ok-left-2.ensures.whole c.more_lows.new.lows c.in_ok-left-3.left
    c.in_ok-left-3.ensures.advances c.in_ok-left-3.ensures.whole

pub returns-clause-whole : goal.returns-clause-whole
returns-clause-whole c =
    links-whole c.args.map.now c.args.self.now c.more_heights.new.heights c.args.budget c.in_ok-left.left
    c.requires.within c.requires.classes c.in_ok-left.ensures.advances c.in_ok-left.ensures.same
    c.in_ok-left.ensures.whole c.more_rows.new.rows c.in_ok-left-2.left c.in_ok-left-2.ensures.advances
    c.in_ok-left-2.ensures.same c.in_ok-left-2.ensures.whole c.more_lows.new.lows c.in_ok-left-3.left
    c.in_ok-left-3.ensures.advances c.in_ok-left-3.ensures.whole

pub returns-clause-works : goal.returns-clause-works
returns-clause-works c =
    links-works c.args.map.now c.args.self.now c.more_heights.new.heights c.args.budget c.in_ok-left.left
    c.requires.within c.requires.classes c.in_ok-left.ensures.advances c.in_ok-left.ensures.same
    c.in_ok-left.ensures.whole c.more_rows.new.rows c.in_ok-left-2.left c.in_ok-left-2.ensures.advances
    c.in_ok-left-2.ensures.same c.in_ok-left-2.ensures.whole c.more_lows.new.lows c.in_ok-left-3.left
    c.in_ok-left-3.ensures.advances c.in_ok-left-3.ensures.whole

pub returns-clause-parts : goal.returns-clause-parts
returns-clause-parts c =
    let map = c.args.map.now in
    let b = c.args.self.now in
    let rows = c.more_rows.new.rows in
    let lent : Columns = record {
      ways = c.as_slice.result.now;
      nodes = c.as_slice-2.result.now;
      heights = c.as_slice-3.result.now;
    } in
    let kept : Columns = record {
      ways = b.ways.numbers.items;
      nodes = b.nodes.numbers.items;
      heights = c.more_heights.new.heights.items;
    } in
    let same : lent ≡ kept = λ i. record {
      ways = c.as_slice.ensures.value i;
      nodes = c.as_slice-2.ensures.value i;
      heights = c.as_slice-3.ensures.value i;
    } in
    let before = rows-before map b c.more_heights.new.heights c.args.budget c.in_ok-left.left c.requires.within
    c.requires.classes c.in_ok-left.ensures.advances c.in_ok-left.ensures.same c.in_ok-left.ensures.whole
    c.requires.parts.rows in
    let lows = lows-before map b c.more_heights.new.heights c.args.budget c.in_ok-left.left c.requires.within
    c.requires.classes c.in_ok-left.ensures.advances c.in_ok-left.ensures.same c.in_ok-left.ensures.whole
    rows c.in_ok-left-2.left c.in_ok-left-2.ensures.advances
    c.in_ok-left-2.ensures.same c.in_ok-left-2.ensures.whole c.requires.parts.lows in
    record {
      heights = c.in_ok-left.ensures.exact c.requires.parts.heights;
      rows = subst (λ (these : Columns). AreRows map these (length rows) rows) same
          (c.in_ok-left-2.ensures.exact (subst (λ (these : Columns). AreRows map these (length b.rows) b.rows)
          (sym same) before));
      bounded = c.in_ok-left-2.ensures.bounded c.requires.parts.bounded;
      lows = subst (λ (ways : List WayClass). AreLows ways b.nodes.kept.items.items rows
          (length c.more_lows.new.lows.items) c.more_lows.new.lows.items) c.as_slice-4.ensures.value
          (subst (λ (nodes : List NodeClass). AreLows c.as_slice-4.result.now nodes rows
          (length c.more_lows.new.lows.items) c.more_lows.new.lows.items) c.as_slice-5.ensures.value
          (c.in_ok-left-3.ensures.exact
          (subst (λ (ways : List WayClass). AreLows ways c.as_slice-5.result.now rows (length b.lows.items) b.lows.items)
          (sym c.as_slice-4.ensures.value)
          (subst (λ (nodes : List NodeClass). AreLows b.ways.kept.items.items nodes rows (length b.lows.items) b.lows.items)
          (sym c.as_slice-5.ensures.value) lows))));
    }
