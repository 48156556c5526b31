use Rattle.std.proofs.Common.{length, drop, ◌-◌, ◌≡◌, ◌≤◌}
use Rattle.edge_memory.specs.Script.{opens}
use Rattle.edge_memory.proofs.script.opens_any.Given as goal

abbrev pub invariant-looking : goal.invariant-looking
invariant-looking l = record {
  within : l.place ≤ length l.script;
  rest : opens l.id l.script ≡ opens l.id (drop l.place l.script);
}

abbrev pub decreases-looking : goal.decreases-looking
decreases-looking l = length l.script - l.place
