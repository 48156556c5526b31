-- Least walks go in short steps, and a grid has few segments.
use Rattle.std.proofs.Common.{◌≡◌, ℕ, ◌*◌, ◌≤◌, List, length, Option, Some, MatchOption, sym, subst, arith}
use Rattle.std.proofs.lemmas.List.{length-map}
use Rattle.grid_map.proofs.NumberLemmas.{cells_of-within, length-numbers_below}
use Rattle.grid_map.specs.Costs.{Costs}
use Rattle.grid_map.specs.Plan.{IsPlan, cells_of}
use Rattle.grid_map.specs.Segments.{numbers_of, segment_of, segments_of}
use Rattle.grid_map.specs.Walks.{HasNoGridWalk, IsLeastGridWalk}
use Rattle.grid_map.specs.declared.least.GridWalk.{GridWalk}
use Rattle.grid_map.specs.declared.plan.Plan.{Plan}
use Rattle.made_routes.proofs.LengthLemmas.{walk-short}
use Rattle.made_routes.specs.Lengths.{AreShortSteps}

-- a grid has at most 2,000,000 segments
pub segments-few : (plan : Plan) → IsPlan plan → length (segments_of plan) ≤ 2000000
segments-few plan is =
    omega (arith, cells_of-within plan is, length-numbers_below plan (2 * cells_of plan), length-map (numbers_of plan) (segment_of plan))

-- a least walk that is there goes in short steps
pub least-short : (plan : Plan) (costs : Costs) (from to : ℕ) (answer : Option GridWalk) (walk : GridWalk) (cells : List ℕ) →
    1 ≤ plan.width →
    answer ≡ Some walk →
    MatchOption answer (HasNoGridWalk plan costs from to) (λ w. IsLeastGridWalk plan costs from to w.cells w.cost) →
    cells ≡ walk.cells → AreShortSteps plan cells
least-short plan costs from to answer walk cells some is found same =
    let least : IsLeastGridWalk plan costs from to walk.cells walk.cost =
    subst (λ (a : Option GridWalk). MatchOption a (HasNoGridWalk plan costs from to)
    (λ w. IsLeastGridWalk plan costs from to w.cells w.cost)) is found in
    subst (AreShortSteps plan) (sym same) (walk-short plan costs from to walk.cost walk.cells some least.walk)
