-- The strip of cells that is searched: a state is a cell and what is due there, and four steps lead to the
-- neighbours of a cell. This project's own rule.
use Rattle.std.specs.Prelude.{ℕ, pos, ◌+◌, ◌-◌, Bool, true, false, cond, ◌==◌, nat_lt, Option, Some, None}
use Rattle.space_search.specs.Rules.{Rules}
use Rattle.space_search.specs.declared.point.Point.{Point}

-- the cell so many cells ahead, where the strip goes so far
abbrev pub ahead : ℕ → ℕ → ℕ → Option ℕ
ahead cells by place = cond (nat_lt (place + by) cells) (Some (place + by)) None

-- the cell so many cells back, where the strip begins no later
abbrev pub back : ℕ → ℕ → Option ℕ
back by place = cond (nat_lt place by) None (Some (place - by))

-- the cell to which the step of a number leads: one cell or one row ahead, or one cell or one row back
abbrev pub neighbour : ℕ → ℕ → ℕ → ℕ → Option ℕ
neighbour cells width number place =
    cond (number == 0) (ahead cells 1 place)
    (cond (number == 1) (ahead cells width place) (cond (number == 2) (back 1 place) (back width place)))

-- a step of this number to a cell: what is due stays, and it costs one more than its number
abbrev pub step_to : ℕ → ℕ → Option ℕ → Option ((ℕ × ℕ) × ℕ)
step_to due number None = None
step_to due number (Some place) = Some ((place, due), number + 1)

-- the same cell with no more due, at no greater cost
abbrev pub strip_covers : ℕ × ℕ → ℕ → ℕ × ℕ → ℕ → Bool
strip_covers a ca b cb =
    cond (a.0 == b.0) (cond (nat_lt b.1 a.1) false (cond (nat_lt cb ca) false true)) false

-- the point of a state at a cost: what is due, and the cost
abbrev pub strip_point : ℕ × ℕ → ℕ → Point
strip_point state cost = record { x = pos state.1; y = pos cost; z = pos 0 }

-- the space of so many cells, in rows of a width, with so many starts in the first cell and so many steps
-- of a state. The more is due at a start the less it costs, so that no start covers another. Nothing is a
-- goal
abbrev pub strip_rules : ℕ → ℕ → ℕ → ℕ → Rules (ℕ × ℕ)
strip_rules cells width starts steps =
    record {
      is_valid = λ state. nat_lt state.0 cells;
      cells = cells;
      cell = λ state. state.0;
      slots = cells;
      slot = λ state. state.0;
      starts = starts;
      start = λ number. Some ((0, number), starts - number);
      steps = λ state. steps;
      step = λ state number. step_to state.1 number (neighbour cells width number state.0);
      is_goal = λ state. false;
      covers = strip_covers;
      point = strip_point;
      low = λ state. Some 0;
    }
