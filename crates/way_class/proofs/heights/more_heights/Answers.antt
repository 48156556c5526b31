use Rattle.std.proofs.Common.{◌≡◌, ◌<◌, length, refl, sym, subst, arith}
use Rattle.way_class.specs.Bound.{AreHeights, IsHeightOf}
use Rattle.way_class.specs.Spending.{items_at}
use Rattle.way_class.proofs.RowLemmas.{each-more, count-more}
use Rattle.way_class.proofs.SpendingLemmas.{advances-none, item-more}
use Rattle.way_class.proofs.heights.more_heights.Goals as goal

pub nodes-init : goal.nodes-init
nodes-init c =
    let first : c.len-first.result ≡ length c.args.heights.now.items =
    omega (arith, c.len-first.ensures, c.args.heights.now.ok.0) in
    record {
      count = sym first;
      exact = λ are. subst (λ n. AreHeights c.args.tiles.now c.args.map.now n c.args.heights.now.items) (sym first) are;
      advances = advances-none 0 c.args.budget (length c.args.map.now.nodes)
          (items_at (length c.args.map.now.nodes) (length c.args.heights.now.items)) c.requires.within;
      same = λ all. refl;
    }

pub nodes-preserved : goal.nodes-preserved
nodes-preserved c =
    let some : 0 < c.nodes.left = omega (arith, c.if-left-eq0.false) in
    let below : length c.nodes.heights.items < length c.args.map.now.nodes = omega
    (arith, c.nodes-count.ensures.value, c.nodes-test.true, c.nodes.invariant.count) in
    let count = count-more _ _ _ _ c.nodes.invariant.count c.in_ok-push.ensures.items in
    record {
      count = count;
      exact = λ are. record {
        count = count;
        each = each-more (IsHeightOf c.args.tiles.now c.args.map.now) _ _ _ _ c.nodes.invariant.count
            c.in_ok-push.ensures.items (c.nodes.invariant.exact are).each c.node_height.ensures.exact;
      };
      advances = item-more c.args.budget c.nodes.left _ (length c.args.map.now.nodes) (length c.nodes.heights.items)
          (length c.push.new.self.items) 1 (items_at (length c.args.map.now.nodes) (length c.args.heights.now.items))
          c.nodes.invariant.advances (omega (arith, count, c.nodes.invariant.count)) (omega (arith, count, below, c.nodes.invariant.count))
          some (omega arith) (omega arith) refl;
      same = λ all. absurd (omega (arith, c.nodes.invariant.advances.grows));
    }
