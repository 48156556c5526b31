-- What the segments of a grid cost by the links of its map (this project's own rule).
use Rattle.std.specs.Prelude.{ℕ, pos, ◌+◌, ◌*◌, int_lt, unsigned_abs, Bool, cond, List, map, length, Option, Some, None}
use Rattle.std.specs.List.{range_with_len}
use Rattle.cost_model.specs.Facts.{Links}
use Rattle.cost_model.specs.Parts.{distance_of}
use Rattle.cost_model.specs.declared.facts.LinkFacts.{LinkFacts}
use Rattle.grid_map.specs.Costs.{Costs, listed_costs}
use Rattle.grid_map.specs.Segments.{segments_of}
use Rattle.grid_map.specs.declared.plan.Plan.{Plan}
use Rattle.way_class.specs.Facts.{Binding, facts_of}

-- a link may be taken: its costfactor is below 10000
abbrev pub is_permitted : LinkFacts → Bool
is_permitted facts = int_lt facts.costfactor (pos 10000000000)

-- what a link of these facts costs in millionths: its distance part with empty buffers; none where it may not
-- be taken
unfoldable pub price_of : LinkFacts → Option ℕ
price_of facts = cond (is_permitted facts) (Some (unsigned_abs (distance_of facts (pos 0) (pos 0)))) None

-- what the first segments cost, in their order: the one at place i has the links 2i and 2i + 1 of a grid's
-- map (`IsGridMap`), the first in its own direction and the second back, and the number says which
abbrev pub segment_prices : Links → ℕ → ℕ → List (Option ℕ)
segment_prices links which count =
    map (λ place. price_of (links.facts (2 * place + which))) (range_with_len 0 count)

-- what the segments of a grid cost, each by its two links
abbrev pub costs_by : Plan → Links → Costs
costs_by plan links =
    listed_costs plan (segment_prices links 0 (length (segments_of plan)))
    (segment_prices links 1 (length (segments_of plan)))

-- the links of a map with the facts that a profile gives them
abbrev pub bound_links : Binding → Links
bound_links binding = record { count = length binding.map.links; facts = facts_of binding }
