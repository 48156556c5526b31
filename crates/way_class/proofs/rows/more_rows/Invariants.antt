use Rattle.std.proofs.Common.{◌≡◌, ◌*◌, length}
use Rattle.way_class.specs.Bound.{AreRows, Columns}
use Rattle.way_class.specs.Rows.{AreBoundedRows}
use Rattle.way_class.specs.Spending.{Advances, items_at}
use Rattle.way_class.proofs.rows.more_rows.Given as goal

abbrev pub invariant-segments : goal.invariant-segments
invariant-segments l =
    let columns : Columns = record { ways = l.ways; nodes = l.nodes; heights = l.heights } in
    record {
      count : length l.rows ≡ 2 * l.segment;
      exact : AreRows l.map columns (length l.fn.rows) l.fn.rows → AreRows l.map columns (2 * l.segment) l.rows;
      bounded : AreBoundedRows l.fn.rows → AreBoundedRows l.rows;
      advances : Advances 0 l.budget l.left (length l.map.links) (items_at (length l.map.links) (length l.fn.rows))
          (items_at (length l.map.links) (length l.rows));
      same : length l.fn.rows ≡ length l.map.links → l.rows ≡ l.fn.rows;
    }
