use Rattle.overpass_graph.specs.Orders.{AreRowsBelow}
use Rattle.overpass_graph.proofs.rows.rows_of.Given as goal

abbrev pub invariant-nodes : goal.invariant-nodes
invariant-nodes l = AreRowsBelow l.tables.draft.nodes l.rows.items l.node
