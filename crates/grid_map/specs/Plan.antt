-- The cells of a grid and the segments between them, as a seed makes them. This project's own rule.
use Rattle.std.specs.Prelude.{ℕ, ◌+◌, ◌*◌, ◌/◌, ◌%◌, ◌≤◌, Bool, ◌&&◌, not, nat_eq, nat_lt, cond}
use Rattle.grid_map.specs.declared.plan.Plan.{Plan}

-- the plan made of these numbers
abbrev pub plan_of : ℕ → ℕ → ℕ → Plan
plan_of seed width height = record { seed = seed; width = width; height = height }

-- the seed and the sizes are within their limits
pub record IsPlan (plan : Plan) : Type 0 where
  pub seed : plan.seed ≤ 65535
  pub some_width : 1 ≤ plan.width
  pub width : plan.width ≤ 1000
  pub some_height : 1 ≤ plan.height
  pub height : plan.height ≤ 1000

-- how many cells there are; they are numbered row by row from the south, in each row from the west
abbrev pub cells_of : Plan → ℕ
cells_of plan = plan.width * plan.height

-- the column of a cell
abbrev pub column_of : Plan → ℕ → ℕ
column_of plan cell = cell % plan.width

-- the row of a cell
abbrev pub row_of : Plan → ℕ → ℕ
row_of plan cell = cell / plan.width

-- the number that a seed draws for a segment
unfoldable pub draw_of : ℕ → ℕ → ℕ
draw_of seed k = ((seed + 1) * (k + 1) * 40503 + k * k) % 65536 / 16

-- the segments of even number go east, those of odd number north
abbrev pub is_east : ℕ → Bool
is_east k = nat_eq (k % 2) 0

-- the cell from which a segment goes
abbrev pub start_of : ℕ → ℕ
start_of k = k / 2

-- the cell to which it goes: the next one in the row, or the one a row further
unfoldable pub end_of : Plan → ℕ → ℕ
end_of plan k = cond (is_east k) (start_of k + 1) (start_of k + plan.width)

-- that cell lies in the grid
unfoldable pub has_room : Plan → ℕ → Bool
has_room plan k =
    cond (is_east k)
    (nat_lt (column_of plan (start_of k) + 1) plan.width)
    (nat_lt (row_of plan (start_of k) + 1) plan.height)

-- the grid has the segment of this number: its cells lie in the grid, and 4 doesn't divide its draw
unfoldable pub is_there : Plan → ℕ → Bool
is_there plan k =
    nat_lt (start_of k) (cells_of plan) && has_room plan k
    && not (nat_eq (draw_of plan.seed k % 4) 0)

-- the class of a segment: 0 residential, 1 primary, 2 track, 3 cycleway
unfoldable pub class_of : ℕ → ℕ → ℕ
class_of seed k = draw_of seed k / 4 % 4
