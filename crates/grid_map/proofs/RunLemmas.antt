-- The runs of a grid's space are the walks of the grid.
use Rattle.std.proofs.Common.{ℕ, ◌≡◌, ◌+◌, List, [], ◌∷◌, Some, refl, sym, ap, ◌∙◌, subst, arith}
use Rattle.std.proofs.lemmas.Bool.{eqb-true, eq-eqb}
use Rattle.space_search.specs.Rules.{Rules}
use Rattle.space_search.specs.Runs.{Walks, rests, steps, IsRun, starts, Reaches, IsLeastRun}
use Rattle.grid_map.specs.declared.plan.Plan.{Plan}
use Rattle.grid_map.specs.Costs.{Costs}
use Rattle.grid_map.specs.Walks.{Joins, IsGridWalk, stays, goes, IsLeastGridWalk}
use Rattle.grid_map.specs.Space.{step_of, grid_rules, state_or, states_along, states_of, RunsAreWalks}
use Rattle.grid_map.proofs.StepLemmas.{step_of-joins, Joins-steps}

module _ (plan : Plan) (costs : Costs) (from to : ℕ) where
  -- the rules of the grid
  abbrev rules : Rules ℕ
  rules = grid_rules plan costs from to

  -- what steps of a run give is a walk
  record WalksOn (state end : ℕ) (cells : List ℕ) (cost total : ℕ) : Type 0 where
    rest : ℕ
    sum : total ≡ cost + rest
    walk : IsGridWalk plan costs state end cells rest

  -- one step and a walk from where it leads
  walk_on : (state next end cost more total number : ℕ) (numbers : List ℕ) → step_of plan costs state number ≡ Some (next, more) →
      WalksOn next end (states_along rules next numbers) (cost + more) total →
      WalksOn state end (states_along rules state (number ∷ numbers)) cost total
  walk_on state next end cost more total number numbers is on =
      let next_is : next ≡ state_or (step_of plan costs state number) state = sym (ap (λ found. state_or found state) is) in
      let P : ℕ → Type 0 = λ cell. IsGridWalk plan costs state end (state ∷ states_along rules cell numbers) (more + on.rest) in
      record {
        rest = more + on.rest;
        sum = omega (arith, on.sum);
        walk = subst P next_is (goes (step_of-joins plan costs state number next more is) on.walk);
      }

  -- the steps of a run are a walk
  walks_on : {state cost end total : ℕ} {numbers : List ℕ} → Walks rules state cost numbers end total →
      WalksOn state end (states_along rules state numbers) cost total
  walks_on {state} {cost} rests = record { rest = 0; sum = omega arith; walk = stays }
  walks_on (steps {state = state} {next = next} {end = end} {cost = cost} {more = more} {total = total} {number = number}
      {numbers = numbers} below is walk) =
      walk_on state next end cost more total number numbers is (walks_on walk)

  -- a run is a walk from the first cell
  run_is_walk :
      {choices : List ℕ} {end cost : ℕ} → IsRun rules choices end cost → IsGridWalk plan costs from end (states_of rules choices) cost
  run_is_walk (starts {state = state} {end = end} {cost = cost} {total = total} {number = number} {numbers = numbers} below is walk) =
      let same : ◌≡◌ {A = ℕ × ℕ} (from, 0) (state, cost) = cc in
      let here : state ≡ from = sym (ap (λ (p : ℕ × ℕ). p.0) same) in
      let free : 0 ≡ cost = ap (λ (p : ℕ × ℕ). p.1) same in
      let P : ℕ → Type 0 = λ cell. WalksOn cell end (states_along rules cell numbers) cost total in
      let on = subst P here (walks_on walk) in
      let total_is : on.rest ≡ total = omega (arith, on.sum, free) in
      let Q : ℕ → Type 0 = λ all. IsGridWalk plan costs from end (states_along rules from numbers) all in
      subst Q total_is on.walk

  -- the steps of a run that make a walk
  record StepsAlong (state end : ℕ) (cells : List ℕ) (cost rest : ℕ) : Type 0 where
    numbers : List ℕ
    walks : Walks rules state cost numbers end (cost + rest)
    cells_are : states_along rules state numbers ≡ cells

  -- one step and the steps from where it leads
  step_along : (state next end cost more rest : ℕ) (cells : List ℕ) → Joins plan costs state next more →
      StepsAlong next end cells (cost + more) rest → StepsAlong state end (state ∷ cells) cost (more + rest)
  step_along state next end cost more rest cells joins along =
      let step = Joins-steps plan costs state next more joins in
      let all : cost + more + rest ≡ cost + (more + rest) = omega arith in
      let P : ℕ → Type 0 = λ total. Walks rules state cost (step.number ∷ along.numbers) end total in
      let next_is : state_or (step_of plan costs state step.number) state ≡ next = ap (λ found. state_or found state) step.leads in
      record {
        numbers = step.number ∷ along.numbers;
        walks = subst P all (steps step.within step.leads along.walks);
        cells_are =
            ap (λ (cell : ℕ). state ∷ states_along rules cell along.numbers) next_is ∙ ap (λ (more_cells : List ℕ). state ∷ more_cells)
            along.cells_are;
      }

  -- a walk is made of steps of a run
  steps_along :
      {state end rest : ℕ} {cells : List ℕ} (cost : ℕ) → IsGridWalk plan costs state end cells rest → StepsAlong state end cells cost rest
  steps_along cost (stays {cell = cell}) =
      let all : cost ≡ cost + 0 = omega arith in
      let P : ℕ → Type 0 = λ total. Walks rules cell cost [] cell total in
      record { numbers = []; walks = subst P all rests; cells_are = refl }
  steps_along cost (goes {from = state} {next = next} {to = end} {cost = more} {rest = rest} {cells = cells} joins walk) =
      step_along state next end cost more rest cells joins (steps_along (cost + more) walk)

  -- a walk from the first cell is a run
  walk_is_run : (cells : List ℕ) (end cost : ℕ) → IsGridWalk plan costs from end cells cost →
      (choices : List ℕ) × IsRun rules choices end cost × (states_of rules choices ≡ cells)
  walk_is_run cells end cost walk =
      let along = steps_along 0 walk in
      let all : 0 + cost ≡ cost = omega arith in
      let P : ℕ → Type 0 = λ total. Walks rules from 0 along.numbers end total in
      (0 ∷ along.numbers, starts (omega arith) refl (subst P all along.walks), along.cells_are)

  -- a walk to the second cell is a run that reaches a goal
  walk_reaches : (cells : List ℕ) (cost : ℕ) → IsGridWalk plan costs from to cells cost → (choices : List ℕ) × Reaches rules choices cost
  walk_reaches cells cost walk =
      let run = walk_is_run cells to cost walk in
      (run.0, record { end = to; run = run.1; goal = eq-eqb to to refl })

  -- a least run is a least walk
  least_is_least : (choices : List ℕ) (cost : ℕ) → IsLeastRun rules choices cost →
      IsLeastGridWalk plan costs from to (states_of rules choices) cost
  least_is_least choices cost is =
      let there : is.reaches.end ≡ to = eqb-true _ _ is.reaches.goal in
      let P : ℕ → Type 0 = λ end. IsGridWalk plan costs from end (states_of rules choices) cost in
      record {
        walk = subst P there (run_is_walk is.reaches.run);
        least = λ others other walk. let run = walk_reaches others other walk in is.least run.0 other run.1;
      }

  -- the runs of the space are exactly the walks
  pub grid_rules-runs : RunsAreWalks rules plan costs from to
  grid_rules-runs = record {
    sound = λ choices end cost run. run_is_walk run;
    whole = walk_is_run;
    least = least_is_least;
    none = λ unreachable cells cost walk. let run = walk_reaches cells cost walk in unreachable run.0 cost run.1;
  }
