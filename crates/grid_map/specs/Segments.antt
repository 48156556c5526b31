-- The list of a grid's segments (this project's own rule).
use Rattle.std.specs.Prelude.{ℕ, ◌<◌, ◌*◌, IsTrue, List, length, map, filter, Option, Some, None, cond}
use Rattle.std.specs.List.{range_with_len}
use Rattle.grid_map.specs.declared.plan.Plan.{Plan}
use Rattle.grid_map.specs.declared.segment.GridSegment.{GridSegment}
use Rattle.grid_map.specs.Plan.{cells_of, is_there, start_of, end_of, class_of}

-- the numbers of the segments below a number, in order
abbrev pub numbers_below : Plan → ℕ → List ℕ
numbers_below plan k = filter (is_there plan) (range_with_len 0 k)

-- the numbers of all segments, in order
abbrev pub numbers_of : Plan → List ℕ
numbers_of plan = numbers_below plan (2 * cells_of plan)

-- the segment of a number
abbrev pub segment_of : Plan → ℕ → GridSegment
segment_of plan k =
    record { k = k; a = start_of k; b = end_of plan k; class = class_of plan.seed k }

-- all segments, in the order of their numbers
abbrev pub segments_of : Plan → List GridSegment
segments_of plan = map (segment_of plan) (numbers_of plan)

-- the place of a number in the list of the segments, if the grid has that segment
unfoldable pub place_of : Plan → ℕ → Option ℕ
place_of plan k = cond (is_there plan k) (Some (length (numbers_below plan k))) None

-- the grid has the segment of this number, which stands at this place
pub record HasPlace (plan : Plan) (k place : ℕ) : Type 0 where
  pub there : IsTrue (is_there plan k)
  pub within : place < length (segments_of plan)
