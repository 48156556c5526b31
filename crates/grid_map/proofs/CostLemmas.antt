-- The costs that lists give.
use Rattle.std.proofs.Common.{ℕ, ◌≡◌, ◌<◌, List, Option, Some, None, slice_get, unwrap_or, refl}
use Rattle.space_search.specs.Rules.{COST_BOUND}
use Rattle.grid_map.specs.declared.plan.Plan.{Plan}
use Rattle.grid_map.specs.Segments.{place_of}
use Rattle.grid_map.specs.Costs.{cost_at, listed_costs, AreCheap}
use Rattle.grid_map.specs.Walks.{Joins, forth, back}

-- an entry that isn't there gives no cost
found-cheap : (costs : List (Option ℕ)) → AreCheap costs → (place cost : ℕ) (entry : Option (Option ℕ)) → slice_get costs place ≡ entry →
    unwrap_or entry None ≡ Some cost → cost < COST_BOUND
found-cheap costs cheap place cost None read is = cc
found-cheap costs cheap place cost (Some entry) read is = cheap place cost cc

-- a cost at a place of a list is one of the list's
cost_at-cheap :
    (costs : List (Option ℕ)) → AreCheap costs → (place : Option ℕ) (cost : ℕ) → cost_at costs place ≡ Some cost → cost < COST_BOUND
cost_at-cheap costs cheap None cost is = cc
cost_at-cheap costs cheap (Some place) cost is = found-cheap costs cheap place cost (slice_get costs place) refl is

-- what joins two cells is one of the lists' costs
pub Joins-cheap : (plan : Plan) (forward backward : List (Option ℕ)) (a b cost : ℕ) → AreCheap forward → AreCheap backward →
    Joins plan (listed_costs plan forward backward) a b cost → cost < COST_BOUND
Joins-cheap plan forward backward a b cost cheap cheap_back (forth k goes) =
    cost_at-cheap forward cheap (place_of plan k) cost goes.permitted
Joins-cheap plan forward backward a b cost cheap cheap_back (back k goes) =
    cost_at-cheap backward cheap_back (place_of plan k) cost goes.permitted
