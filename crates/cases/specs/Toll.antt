-- The tolls that are searched: a state is a place and what is due at its next step. Three steps lead from the
-- place 0 to the place 1, and leave more or less due there; one leads on to the goal 2.
use Rattle.std.specs.Prelude.{ℕ, ◌+◌, Bool, false, cond, ◌==◌, nat_lt, Option, Some, None}
use Rattle.cases.specs.Due.{due_covers, due_point}
use Rattle.space_search.specs.Rules.{Rules}

-- where a step leads, and what it costs with what is due
abbrev pub toll_step : ℕ × ℕ → ℕ → Option ((ℕ × ℕ) × ℕ)
toll_step state number =
    cond (state.0 == 0)
    (cond (number == 0) (Some ((1, 9), 1 + state.1))
    (cond (number == 1) (Some ((1, 2), 3 + state.1)) (Some ((1, 5), 4 + state.1))))
    (cond (state.0 == 1) (Some ((2, 0), 2 + state.1)) None)

-- what is still to pay: of places with a bound, the last step with what is due
abbrev pub toll_low : Bool → ℕ × ℕ → Option ℕ
toll_low bounded state = cond bounded (cond (state.0 == 1) (Some (2 + state.1)) (Some 0)) (Some 0)

-- the space of the tolls, with a lower bound or without
abbrev pub toll_rules : Bool → Rules (ℕ × ℕ)
toll_rules bounded =
    record {
      is_valid = λ state. cond (nat_lt state.0 3) (nat_lt state.1 10) false;
      cells = 3;
      cell = λ state. state.0;
      slots = 3;
      slot = λ state. state.0;
      starts = 1;
      start = λ number. Some ((0, 0), 0);
      steps = λ state. cond (state.0 == 0) 3 (cond (state.0 == 1) 1 0);
      step = toll_step;
      is_goal = λ state. state.0 == 2;
      covers = due_covers;
      point = due_point;
      low = toll_low bounded;
    }
