use Rattle.bike_space.specs.Kept.{task_of}
use Rattle.map_cases.proofs.reaches.reached.Goals as goal

pub told_by-requires : goal.told_by-requires
told_by-requires g c =
    let space = c.args.space.now in
    record {
      on = c.new-reach.ensures.on (task_of (g.G.TerrainOf.terrain space.terrain) space.kept) c.requires.start;
      unused = c.requires.unused;
      map = c.requires.map;
      some = c.requires.some;
    }
