use Rattle.std.proofs.Common.{◌≤◌}
use Rattle.route_ready.specs.World.{world_of}
use Rattle.route_engine.specs.Pendings.{IsPendingOver}
use Rattle.run_cases.proofs.route.replies.turned.Given as goal

abbrev pub invariant-turns : goal.invariant-turns
invariant-turns l = IsPendingOver (world_of l.world) l.pending × (1 ≤ l.quota)
