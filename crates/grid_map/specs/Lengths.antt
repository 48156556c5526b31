-- Where the cells lie on the globe, and how long the segments are (this project's own rule).
use Rattle.std.specs.Prelude.{ℕ, pos, ◌*◌}
use Rattle.geo_int.specs.Place.{Place, place}
use Rattle.geo_int.specs.Arrow.{length_between}
use Rattle.grid_map.specs.declared.plan.Plan.{Plan}
use Rattle.grid_map.specs.Plan.{column_of, row_of, start_of, end_of}

-- the place of a cell: a thousandth of a degree east for each column and north for each row
abbrev pub cell_place : Plan → ℕ → Place
cell_place plan cell = place (pos (1000 * column_of plan cell)) (pos (1000 * row_of plan cell))

-- the length of a segment in millimetres
unfoldable pub segment_length : Plan → ℕ → ℕ
segment_length plan k =
    length_between (cell_place plan (start_of k)) (cell_place plan (end_of plan k))
