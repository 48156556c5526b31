-- The line of cells that is searched: a state is a cell and what is due there, and a step leads to the cell
-- ahead or to the one behind. This project's own rule.
use Rattle.std.specs.Prelude.{ℕ, ◌+◌, ◌-◌, cond, ◌==◌, nat_lt, Option, Some, None}
use Rattle.cases.specs.Due.{due_covers, due_point}
use Rattle.space_search.specs.Rules.{Rules}

-- the cell ahead, where there is one
abbrev pub ahead : ℕ → ℕ → Option ℕ
ahead cells place = cond (nat_lt (place + 1) cells) (Some (place + 1)) None

-- the cell behind, where there is one
abbrev pub back : ℕ → Option ℕ
back place = cond (nat_lt place 1) None (Some (place - 1))

-- the cell to which the step of a number leads
abbrev pub neighbour : ℕ → ℕ → ℕ → Option ℕ
neighbour cells number place = cond (number == 0) (ahead cells place) (back place)

-- a step of this number to a cell: what is due stays, and it costs one more than its number
abbrev pub step_to : ℕ → ℕ → Option ℕ → Option ((ℕ × ℕ) × ℕ)
step_to due number None = None
step_to due number (Some place) = Some ((place, due), number + 1)

-- the space of so many cells, with its goal, so many starts in the first cell and so many steps of a state.
-- The more is due at a start the less it costs, so that no start covers another
abbrev pub line_rules : ℕ → ℕ → ℕ → ℕ → Rules (ℕ × ℕ)
line_rules cells goal starts steps =
    record {
      is_valid = λ state. nat_lt state.0 cells;
      cells = cells;
      cell = λ state. state.0;
      slots = cells;
      slot = λ state. state.0;
      starts = starts;
      start = λ number. Some ((0, number), starts - 1 - number);
      steps = λ state. steps;
      step = λ state number. step_to state.1 number (neighbour cells number state.0);
      is_goal = λ state. state.0 == goal;
      covers = due_covers;
      point = due_point;
      low = λ state. Some 0;
    }
