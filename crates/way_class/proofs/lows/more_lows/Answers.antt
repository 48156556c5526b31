use Rattle.std.proofs.Common.{◌≡◌, ◌∙◌, ◌<◌, length, refl, sym, ap, subst, arith}
use Rattle.way_class.specs.Lows.{AreLows}
use Rattle.way_class.specs.Spending.{Advances, items_at}
use Rattle.way_class.proofs.LowLemmas.{low-here, lows-more, row-facts}
use Rattle.way_class.proofs.RowLemmas.{count-more}
use Rattle.way_class.proofs.SpendingLemmas.{advances-none, item-more}
use Rattle.way_class.proofs.lows.more_lows.Goals as goal

pub kept_price-requires : goal.kept_price-requires
kept_price-requires c = record {
  facts = row-facts c.args.ways.now c.args.nodes.now c.get.result _ c.get.ensures.bounded c.facts_by_row-facts.ensures.exact;
}

pub links-init : goal.links-init
links-init c =
    let rows = c.args.rows.now in
    let same : c.reserve_exact.new.self.items ≡ c.args.lows.now.items = c.in_ok-reserve_exact.ensures.items in
    let first : length c.args.lows.now.items ≡ c.len-first.result =
    omega (arith, c.len-first.ensures, c.args.lows.now.ok.0) in
    record {
      count = ap length same ∙ first;
      exact = λ are. subst (λ lows. AreLows c.args.ways.now c.args.nodes.now rows c.len-first.result lows) (sym same)
          (subst (λ n. AreLows c.args.ways.now c.args.nodes.now rows n c.args.lows.now.items) first are);
      advances = subst (λ n. Advances 0 c.args.budget c.args.budget (length rows)
          (items_at (length rows) (length c.args.lows.now.items)) (items_at (length rows) n)) (sym (ap length same))
          (advances-none 0 c.args.budget (length rows) (items_at (length rows) (length c.args.lows.now.items))
          c.requires.within);
    }

pub links-preserved : goal.links-preserved
links-preserved c =
    let some : 0 < c.links.left = omega (arith, c.if-left-eq0.false) in
    let count = count-more _ _ _ _ c.links.invariant.count c.in_ok-push.ensures.items in
    record {
      count = count;
      exact = λ are.
          lows-more c.args.ways.now c.args.nodes.now c.args.rows.now c.links.link _ _ _ (c.links.invariant.exact are)
          c.in_ok-push.ensures.items
          (low-here c.args.ways.now c.args.nodes.now c.args.rows.now c.links.link c.get.result _ _ c.get.ensures.value
          c.facts_by_row-facts.ensures.exact c.kept_price.ensures.exact);
      advances = item-more c.args.budget c.links.left _ (length c.args.rows.now) (length c.links.lows.items)
          (length c.push.new.self.items) 1 (items_at (length c.args.rows.now) (length c.args.lows.now.items))
          c.links.invariant.advances (omega (arith, count, c.links.invariant.count))
          (omega (arith, count, c.links-test.true, c.len-count.ensures.value)) some (omega arith) (omega arith) refl;
    }
