-- It is a reach over the space; what it may settle still becomes less.
use Rattle.std.proofs.Common.{◌-◌}
use Rattle.bike_space.specs.Kept.{task_of}
use Rattle.cost_table.specs.Reaches.{IsReachOn, quest_of, settled_of}
use Rattle.map_cases.proofs.reaches.told_by.Given as goal

abbrev pub invariant-turns : goal.invariant-turns
invariant-turns g l = IsReachOn (task_of (g.G.TerrainOf.terrain l.space.terrain) l.space.kept) l.reach

abbrev pub decreases-turns : goal.decreases-turns
decreases-turns g l =
    (quest_of (task_of (g.G.TerrainOf.terrain l.space.terrain) l.space.kept) l.reach).limit - settled_of l.reach
