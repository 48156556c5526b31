use Rattle.std.proofs.Common.{◌≡◌, length}
use Rattle.way_class.specs.Lows.{AreLows}
use Rattle.way_class.specs.Spending.{Advances, items_at}
use Rattle.way_class.proofs.lows.more_lows.Given as goal

abbrev pub invariant-links : goal.invariant-links
invariant-links l = record {
  count : length l.lows.items ≡ l.link;
  exact : AreLows l.ways l.nodes l.rows (length l.fn.lows.items) l.fn.lows.items →
      AreLows l.ways l.nodes l.rows l.link l.lows.items;
  advances : Advances 0 l.budget l.left (length l.rows) (items_at (length l.rows) (length l.fn.lows.items))
      (items_at (length l.rows) (length l.lows.items));
}
