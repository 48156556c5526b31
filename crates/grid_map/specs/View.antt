-- What the fields of a grid stand for.
use Rattle.std.specs.Prelude.{◌≡◌, ◌*◌, map}
use Rattle.std.specs.List.{range_with_len}
use Rattle.grid_map.specs.declared.grid.Grid.TheInside.{Inside}
use Rattle.grid_map.specs.Plan.{IsPlan, cells_of}
use Rattle.grid_map.specs.Segments.{numbers_of, place_of}

-- the fields of a grid: its plan, the numbers of its segments, and the place of each number
pub record IsGrid (grid : Inside) : Type 0 where
  pub lawful : IsPlan grid.plan
  pub numbers : grid.numbers.items ≡ numbers_of grid.plan
  pub places :
      grid.places.items ≡ map (place_of grid.plan) (range_with_len 0 (2 * cells_of grid.plan))
