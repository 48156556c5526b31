use Rattle.std.proofs.Common.{◌*◌, arith}
use Rattle.std.proofs.lemmas.List.{length-map}
use Rattle.grid_map.specs.Plan.{cells_of}
use Rattle.grid_map.specs.Segments.{numbers_of, segment_of}
use Rattle.grid_map.proofs.NumberLemmas.{length-numbers_below}
use Rattle.grid_map.proofs.PartLemmas.{length-parts_of}
use Rattle.grid_map.proofs.grid.Grid.map_parts.Goals as goal

pub overflow_add-result : goal.overflow_add-result
overflow_add-result c =
    omega (
      arith,
      c.cells.ensures.exact,
      c.cells.ensures.within,
      c.segments.ensures.exact,
      length-map (numbers_of c.args.self.now) (segment_of c.args.self.now),
      length-numbers_below c.args.self.now (2 * cells_of c.args.self.now),
    )

pub overflow_add-result-2 : goal.overflow_add-result-2
overflow_add-result-2 c =
    omega (
      arith,
      c.cells.ensures.exact,
      c.cells.ensures.within,
      c.segments.ensures.exact,
      length-map (numbers_of c.args.self.now) (segment_of c.args.self.now),
      length-numbers_below c.args.self.now (2 * cells_of c.args.self.now),
    )

pub returns : goal.returns
returns c =
    record { exact = omega (arith, c.cells.ensures.exact, c.segments.ensures.exact, length-parts_of c.args.self.now) }
