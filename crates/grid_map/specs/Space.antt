-- The search space of a grid's cells, and what its runs are (this project's own rule).
use Rattle.std.specs.Prelude.{ℕ, ◌≡◌, ◌+◌, ◌-◌, ◌*◌, List, [], ◌∷◌, Option, Some, None, pos, cond, nat_eq, nat_lt, nat_le, ◌&&◌}
use Rattle.space_search.specs.Rules.{Rules}
use Rattle.space_search.specs.Runs.{IsRun, IsLeastRun, IsUnreachable}
use Rattle.grid_map.specs.declared.plan.Plan.{Plan}
use Rattle.grid_map.specs.Plan.{cells_of, is_there, start_of, end_of}
use Rattle.grid_map.specs.Costs.{Costs}
use Rattle.grid_map.specs.Walks.{IsGridWalk, IsLeastGridWalk, HasNoGridWalk}

-- the cell to which a step leads at a cost, none where there is no cost
abbrev pub reached : ℕ → Option ℕ → Option (ℕ × ℕ)
reached cell None = None
reached cell (Some cost) = Some (cell, cost)

-- the step along the segment of this number
unfoldable pub step_forward : Plan → Costs → ℕ → Option (ℕ × ℕ)
step_forward plan costs k = cond (is_there plan k) (reached (end_of plan k) (costs.forward k)) None

-- the step back along it
unfoldable pub step_backward : Plan → Costs → ℕ → Option (ℕ × ℕ)
step_backward plan costs k = cond (is_there plan k) (reached (start_of k) (costs.backward k)) None

-- the step of a cell with this number: 0 goes east, 1 north, 2 west, any other south
unfoldable pub step_of : Plan → Costs → ℕ → ℕ → Option (ℕ × ℕ)
step_of plan costs cell number =
    cond (nat_eq number 0) (step_forward plan costs (2 * cell))
    (cond (nat_eq number 1) (step_forward plan costs (2 * cell + 1))
    (cond (nat_eq number 2)
    (cond (nat_le 1 cell) (step_backward plan costs (2 * (cell - 1))) None)
    (cond (nat_le plan.width cell) (step_backward plan costs (2 * (cell - plan.width) + 1)) None)))

-- the space of a grid: each cell is a state, the one start is the first cell, the goal the other. A cell
-- at a cost covers itself at each cost that isn't below, and nothing is known of what is still to pay
abbrev pub grid_rules : Plan → Costs → ℕ → ℕ → Rules ℕ
grid_rules plan costs from to =
    record {
      is_valid = λ cell. nat_lt cell (cells_of plan);
      cells = cells_of plan;
      cell = λ cell. cell;
      slots = cells_of plan;
      slot = λ cell. cell;
      starts = 1;
      start = λ _. Some (from, 0);
      steps = λ _. 4;
      step = step_of plan costs;
      is_goal = λ cell. nat_eq cell to;
      covers = λ a ca b cb. nat_eq a b && nat_le ca cb;
      point = λ cell cost. record { x = pos 0; y = pos 0; z = pos 0 };
      low = λ _. Some 0;
    }

-- the state that a start or step gives, or this one where it gives none
abbrev pub state_or : Option (ℕ × ℕ) → ℕ → ℕ
state_or None state = state
state_or (Some found) state = found.0

-- a state and those behind it along steps of these numbers
abbrev pub states_along : Rules ℕ → ℕ → List ℕ → List ℕ
states_along rules state [] = state ∷ []
states_along rules state (number ∷ numbers) =
    state ∷ states_along rules (state_or (rules.step state number) state) numbers

-- the states of a run: what its start gives, and then what each step gives
abbrev pub states_of : Rules ℕ → List ℕ → List ℕ
states_of rules [] = []
states_of rules (number ∷ numbers) = states_along rules (state_or (rules.start number) 0) numbers

-- these choices are a run of the space
pub record IsSomeRun (rules : Rules ℕ) (choices : List ℕ) : Type 0 where
  pub end : ℕ
  pub cost : ℕ
  pub run : IsRun rules choices end cost

-- the runs of a space are exactly the walks of a grid from one cell to another, with their costs
pub record RunsAreWalks (rules : Rules ℕ) (plan : Plan) (costs : Costs) (from to : ℕ) : Type 0 where
  -- each run is a walk from the one cell to where it ends
  pub sound :
      (choices : List ℕ) (end cost : ℕ) → IsRun rules choices end cost →
      IsGridWalk plan costs from end (states_of rules choices) cost
  -- each walk is a run
  pub whole :
      (cells : List ℕ) (end cost : ℕ) → IsGridWalk plan costs from end cells cost →
      (choices : List ℕ) × IsRun rules choices end cost × (states_of rules choices ≡ cells)
  -- a least run to a goal is a least walk between the cells
  pub least :
      (choices : List ℕ) (cost : ℕ) → IsLeastRun rules choices cost →
      IsLeastGridWalk plan costs from to (states_of rules choices) cost
  -- where no run reaches a goal there is no walk between the cells
  pub none : IsUnreachable rules → HasNoGridWalk plan costs from to
