use Rattle.std.proofs.Common.{arith}
use Rattle.bike_space.specs.Kept.{task_of}
use Rattle.cost_table.proofs.TurnLemmas.{stays-itself}
use Rattle.cost_table.proofs.reach.Reach.settle_many.Goals as goal

pub labels-init : goal.labels-init
labels-init g c =
    let space = c.args.space.now in
    record {
      way = c.requires.way;
      stays = stays-itself (task_of (g.G.TerrainOf.terrain space.terrain) space.kept) c.args.self.now c.requires.way;
      within = omega arith;
      counts = omega arith;
    }
