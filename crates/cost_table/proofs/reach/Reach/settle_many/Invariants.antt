use Rattle.std.proofs.Common.{◌≡◌, ◌+◌, ◌-◌, ◌≤◌}
use Rattle.bike_space.specs.Kept.{task_of}
use Rattle.cost_table.specs.Reaches.{IsUnderWay, StaysReach}
use Rattle.cost_table.proofs.reach.Reach.settle_many.Given as goal

abbrev pub invariant-labels : goal.invariant-labels
invariant-labels g l =
    record {
      way : IsUnderWay (task_of (g.G.TerrainOf.terrain l.space.terrain) l.space.kept) l.self;
      stays : StaysReach (task_of (g.G.TerrainOf.terrain l.space.terrain) l.space.kept) l.initial.self l.self;
      within : l.count ≤ l.quota;
      counts : l.self.settled ≡ l.initial.self.settled + l.count;
    }

abbrev pub decreases-labels : goal.decreases-labels
decreases-labels g l = l.quota - l.count
