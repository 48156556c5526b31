use Rattle.std.proofs.Common.{◌≡◌, length}
use Rattle.context_check.specs.Checked.{Subject}
use Rattle.profile_code.specs.Scratch.{HoldsGlobals}
use Rattle.way_class.specs.Bound.{AreNodesBound}
use Rattle.way_class.specs.Parts.{Suits}
use Rattle.way_class.specs.Spending.{Advances}
use Rattle.way_class.specs.Stages.{nodes_at}
use Rattle.way_class.proofs.nodes.more_nodes.Given as goal

abbrev pub invariant-nodes : goal.invariant-nodes
invariant-nodes l = record {
  held : HoldsGlobals l.code l.scratch;
  count : length l.nodes.numbers.items ≡ l.node;
  bound : (subject : Subject) → Suits l.code l.table subject →
      AreNodesBound subject l.map (length l.initial.nodes.numbers.items) l.initial.nodes → AreNodesBound subject l.map l.node l.nodes;
  advances : Advances l.weight l.budget l.left (length l.map.nodes) (nodes_at l.weight (length l.map.nodes) l.initial.nodes)
      (nodes_at l.weight (length l.map.nodes) l.nodes);
  same : length l.initial.nodes.numbers.items ≡ length l.map.nodes → l.nodes ≡ l.initial.nodes;
}
