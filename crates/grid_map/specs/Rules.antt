-- What the space of a grid answers.
use Rattle.std.specs.Prelude.{ℕ}
use Rattle.space_search.specs.Rules.{Rules}
use Rattle.grid_map.specs.declared.space.GridSpace.{GridSpace}
use Rattle.grid_map.specs.Costs.{Costs, listed_costs}
use Rattle.grid_map.specs.Space.{grid_rules}

-- what its segments cost
abbrev pub costs_of : GridSpace → Costs
costs_of space = listed_costs space.grid.now space.forward.now space.backward.now

-- the rules of a grid's space
abbrev pub rules_of : GridSpace → Rules ℕ
rules_of space = grid_rules space.grid.now (costs_of space) space.from space.to
