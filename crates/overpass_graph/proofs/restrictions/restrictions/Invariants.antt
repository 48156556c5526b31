-- The restrictions so far, and those among the relations that are left.
use Rattle.std.proofs.Common.{◌≡◌, ◌++◌, drop, length}
use Rattle.overpass_graph.specs.Orders.{picked}
use Rattle.overpass_graph.specs.Restrictions.{restrictions_of}
use Rattle.overpass_graph.specs.Turns.{AreViasBelow}
use Rattle.overpass_graph.proofs.restrictions.restrictions.Given as goal

abbrev pub invariant-relations : goal.invariant-relations
invariant-relations l =
    (l.list.items ++ restrictions_of (picked l.tables.draft.nodes l.order.places.items) l.tables.draft.ways
    (drop l.relation l.tables.draft.relations)
    ≡ restrictions_of (picked l.tables.draft.nodes l.order.places.items) l.tables.draft.ways l.tables.draft.relations)
    × AreViasBelow (length l.tables.draft.nodes) l.list.items
