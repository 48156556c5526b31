use Rattle.std.proofs.Common.{◌≡◌, ◌∙◌, ◌*◌, ◌+◌, ◌<◌, ◌≤◌, ◌∷◌, [], length, length-append, sym, ap, subst, arith}
use Rattle.way_class.specs.Bound.{AreRows, Columns}
use Rattle.way_class.specs.Rows.{AreBoundedRows, ahead_row, back_row}
use Rattle.way_class.specs.Spending.{Advances, items_at}
use Rattle.way_class.proofs.RowLemmas.{bounded-more, links-even, rows-more}
use Rattle.way_class.proofs.SpendingLemmas.{advances-none, item-more}
use Rattle.way_class.proofs.rows.more_rows.Goals as goal

pub segments-init : goal.segments-init
segments-init c =
    let map = c.args.map.now in
    let columns : Columns = record { ways = c.args.ways.now; nodes = c.args.nodes.now; heights = c.args.heights.now } in
    let same : c.reserve.new.self ≡ c.args.rows.now = c.reserve.ensures.same in
    let first : length c.args.rows.now ≡ 2 * c.segments-first.result = sym c.segments-first.ensures.value in
    record {
      count = ap length same ∙ first;
      exact = λ are. subst (λ rows. AreRows map columns (2 * c.segments-first.result) rows) (sym same)
          (subst (λ n. AreRows map columns n c.args.rows.now) first are);
      bounded = λ are. subst AreBoundedRows (sym same) are;
      advances = subst (λ n. Advances 0 c.args.budget c.args.budget (length map.links)
          (items_at (length map.links) (length c.args.rows.now)) (items_at (length map.links) n)) (sym (ap length same))
          (advances-none 0 c.args.budget (length map.links) (items_at (length map.links) (length c.args.rows.now))
          c.requires.within);
      same = λ all. same;
    }

pub segments-preserved : goal.segments-preserved
segments-preserved c =
    let map = c.args.map.now in
    let columns : Columns = record { ways = c.args.ways.now; nodes = c.args.nodes.now; heights = c.args.heights.now } in
    let ahead = ahead_row c.segment_row.result in
    let back = back_row c.segment_row.result in
    let pushed = c.in_ok-push.ensures.value in
    let some : 0 < c.segments.left = omega (arith, c.if-left-eq0.false) in
    let next : length c.push.new.self ≡ length c.segments.rows + 2 =
    ap length pushed ∙ length-append c.segments.rows (ahead ∷ back ∷ []) in
    let count : 2 * c.segments.segment + 2 ≡ 2 * (c.segments.segment + 1) = omega arith in
    let within : length c.push.new.self ≤ length map.links =
    omega (arith, next, c.segments.invariant.count, c.links-segments.ensures.value, c.segments-test.true) in
    record {
      count = omega (arith, next, c.segments.invariant.count);
      exact = λ are.
          subst (λ n. AreRows map columns n c.push.new.self) count
          (rows-more map columns (2 * c.segments.segment) c.segments.rows c.push.new.self ahead back
          (c.segments.invariant.exact are) pushed c.segment_row.ensures.ahead c.segment_row.ensures.back);
      bounded = λ are. subst AreBoundedRows (sym pushed)
          (bounded-more c.segments.rows c.segment_row.result (c.segments.invariant.bounded are));
      advances = item-more c.args.budget c.segments.left c.saturating_sub-left.result (length map.links)
          (length c.segments.rows) (length c.push.new.self) 2 (items_at (length map.links) (length c.args.rows.now))
          c.segments.invariant.advances next within some (omega arith) (omega arith) c.saturating_sub-left.ensures;
      same = λ all. absurd (omega (arith, c.segments.invariant.advances.grows, next));
    }

pub returns-clause-whole : goal.returns-clause-whole
returns-clause-whole c =
    let even = links-even c.args.map.now c.links-segments.ensures.lawful in
    λ some. omega (
      arith,
      even,
      c.links-segments.ensures.value,
      c.segments-test.false,
      c.segments.auto.segment-end,
      c.segments-first.ensures.within,
      c.segments.invariant.count,
    )

pub returns-then-left-eq0-clause-bounded : goal.returns-then-left-eq0-clause-bounded
returns-then-left-eq0-clause-bounded c = c.segments.invariant.bounded

pub returns-clause-bounded : goal.returns-clause-bounded
returns-clause-bounded c = c.segments.invariant.bounded
