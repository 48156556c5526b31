use Rattle.std.proofs.Common.{◌≡◌, length}
use Rattle.way_class.specs.Bound.{AreHeights}
use Rattle.way_class.specs.Spending.{Advances, items_at}
use Rattle.way_class.proofs.heights.more_heights.Given as goal

abbrev pub invariant-nodes : goal.invariant-nodes
invariant-nodes l = record {
  count : length l.heights.items ≡ l.node;
  exact : AreHeights l.tiles l.map (length l.initial.heights.items) l.initial.heights.items →
      AreHeights l.tiles l.map l.node l.heights.items;
  advances : Advances 0 l.budget l.left (length l.map.nodes) (items_at (length l.map.nodes) (length l.initial.heights.items))
      (items_at (length l.map.nodes) (length l.heights.items));
  same : length l.initial.heights.items ≡ length l.map.nodes → l.heights.items ≡ l.initial.heights.items;
}
