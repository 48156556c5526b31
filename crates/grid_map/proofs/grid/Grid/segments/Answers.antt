use Rattle.std.proofs.Common.{◌*◌, arith, length, ap}
use Rattle.grid_map.specs.Plan.{cells_of}
use Rattle.grid_map.proofs.NumberLemmas.{cells_of-within, length-numbers_below}
use Rattle.grid_map.proofs.grid.Grid.segments.Goals as goal

pub overflow_cast-result : goal.overflow_cast-result
overflow_cast-result c =
    omega (
      arith,
      c.self.inside.numbers.ok.0,
      ap length c.self.invariant.numbers,
      length-numbers_below c.self.inside.plan
          (2 * cells_of c.self.inside.plan),
      cells_of-within c.self.inside.plan c.self.invariant.lawful,
    )
