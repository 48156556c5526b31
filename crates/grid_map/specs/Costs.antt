-- What it costs to go along a segment in either direction (this project's own rule).
use Rattle.std.specs.Prelude.{ℕ, ◌≡◌, ◌<◌, List, map, Option, Some, None, slice_get, unwrap_or}
use Rattle.space_search.specs.Rules.{COST_BOUND}
use Rattle.grid_map.specs.declared.plan.Plan.{Plan}
use Rattle.grid_map.specs.Segments.{numbers_of, place_of}
use Rattle.grid_map.specs.Lengths.{segment_length}

-- what each segment costs by its number, from its start and back; none where that is forbidden
pub record Costs : Type 0 where
  pub forward : ℕ → Option ℕ
  pub backward : ℕ → Option ℕ

-- the cost at a place of a list, none where there is no place
abbrev pub cost_at : List (Option ℕ) → Option ℕ → Option ℕ
cost_at costs None = None
cost_at costs (Some place) = unwrap_or (slice_get costs place) None

-- the costs by two lists, which have one entry for each segment in their order
abbrev pub listed_costs : Plan → List (Option ℕ) → List (Option ℕ) → Costs
listed_costs plan forward backward =
    record {
      forward = λ k. cost_at forward (place_of plan k);
      backward = λ k. cost_at backward (place_of plan k);
    }

-- each segment costs its length in millimetres, in both directions
abbrev pub length_costs : Plan → Costs
length_costs plan =
    record {
      forward = λ k. Some (segment_length plan k);
      backward = λ k. Some (segment_length plan k);
    }

-- the list of the lengths, in the order of the segments
abbrev pub length_list : Plan → List (Option ℕ)
length_list plan = map (λ k. Some (segment_length plan k)) (numbers_of plan)

-- each cost in the list is below the bound of a search
abbrev pub AreCheap : List (Option ℕ) → Type 0
AreCheap costs = (place cost : ℕ) → slice_get costs place ≡ Some (Some cost) → cost < COST_BOUND
