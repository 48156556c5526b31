use Rattle.std.proofs.Common.{◌≤◌}
use Rattle.route_ready.specs.World.{world_of}
use Rattle.run_cases.proofs.route.steps.stepped.Given as goal

abbrev pub invariant-steps : goal.invariant-steps
invariant-steps g l = g.S.Search.IsOn (world_of l.world) l.search × (1 ≤ l.left) × (1 ≤ l.quota)
