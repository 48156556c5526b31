use Rattle.std.proofs.Common.{length, drop, ◌≤◌}
use Rattle.edge_memory.specs.Script.{IsPlayable}
use Rattle.edge_memory.proofs.script.can_play.Given as goal

abbrev pub invariant-testing : goal.invariant-testing
invariant-testing l = record {
  within : l.place ≤ length l.script;
  rest : IsPlayable (drop l.place l.script);
}

abbrev pub decreases-testing : goal.decreases-testing
decreases-testing l = l.place
