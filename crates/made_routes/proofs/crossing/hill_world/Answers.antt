use Rattle.std.proofs.Common.{arith}
use Rattle.made_routes.proofs.HillLemmas.{hill-world}
use Rattle.made_routes.proofs.crossing.hill_world.Goals as goal

pub hill_tiles-requires : goal.hill_tiles-requires
hill_tiles-requires c = record { lawful = omega (arith, c.requires.seed, c.segments-segments.ensures.lawful.seed) }

pub returns : goal.returns
returns c =
    record {
      exact = hill-world c.args.grid.now c.args.seed c.in_ok-table.table c.in_ok-tiles.tiles c.made_world.result c.requires.seed
          c.in_ok-table.ensures.exact c.in_ok-tiles.ensures.exact c.made_world.ensures.exact;
    }
