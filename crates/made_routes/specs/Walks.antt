-- Walks across a grid that cost least by a profile (this project's own rule).
use Rattle.std.specs.Prelude.{◌≡◌, ℕ, [], Option, Some, None, MatchOption, Ok, Err}
use Rattle.grid_map.specs.Costs.{Costs}
use Rattle.grid_map.specs.Walks.{HasNoGridWalk, IsLeastGridWalk}
use Rattle.grid_map.specs.declared.plan.Plan.{Plan}
use Rattle.hgt_tiles.specs.declared.tile_set.Tiles.{Tiles}
use Rattle.lookup_table.specs.First.{TagTable}
use Rattle.made_routes.specs.Costs.{bound_links, costs_by}
use Rattle.made_routes.specs.Lengths.{walk_length}
use Rattle.made_routes.specs.Made.{HaveNoTile, IsMadeWorld}
use Rattle.made_routes.specs.declared.priced.PricedWalk.{PricedWalk}
use Rattle.profile_text.specs.Tree.{Sections}
use Rattle.route_ready.specs.Readiness.{Terms, ready_of}
use Rattle.route_ready.specs.Worlds.{WorldValue, binding_in}
use Rattle.route_ready.specs.declared.error.RouteError.{RouteError}
use Rattle.way_class.specs.Facts.{Binding}

-- between which cells of a grid a walk is asked for, and by which tag table and profile
pub record WalkQuestion : Type 0 where
  pub plan : Plan
  pub from : ℕ
  pub to : ℕ
  pub table : TagTable
  pub sections : Sections

-- the profile, without overrides, bound to the grid's own map, without heights
pub record IsBoundFor (question : WalkQuestion) (binding : Binding) : Type 0 where
  pub tiles : Tiles
  pub level : HaveNoTile tiles
  pub world : WorldValue
  pub made : IsMadeWorld question.plan question.table tiles world
  pub is : binding ≡ binding_in world question.sections []

-- what the segments cost by the profile, which is accepted there
pub record ArePrices (question : WalkQuestion) (costs : Costs) : Type 0 where
  pub binding : Binding
  pub bound : IsBoundFor question binding
  pub terms : Terms
  pub accepted : ready_of binding ≡ Ok terms
  pub are : costs ≡ costs_by question.plan (bound_links binding)

-- a walk of least cost between the two cells, with its length
pub record IsPricedWalk (question : WalkQuestion) (walk : PricedWalk) : Type 0 where
  pub costs : Costs
  pub prices : ArePrices question costs
  pub least : IsLeastGridWalk question.plan costs question.from question.to walk.cells walk.cost
  pub long : walk.length ≡ walk_length question.plan walk.cells

-- there is no walk between the two cells
pub record HasNoPricedWalk (question : WalkQuestion) : Type 0 where
  pub costs : Costs
  pub prices : ArePrices question costs
  pub none : HasNoGridWalk question.plan costs question.from question.to

-- the walk that is asked for, or that there is none
abbrev pub IsWalkAnswer : WalkQuestion → Option PricedWalk → Type 0
IsWalkAnswer question (Some walk) = IsPricedWalk question walk
IsWalkAnswer question None = HasNoPricedWalk question

-- the profile is refused on the grid's own map
pub record IsProfileRefused (question : WalkQuestion) (error : RouteError) : Type 0 where
  pub binding : Binding
  pub bound : IsBoundFor question binding
  pub refused : ready_of binding ≡ Err error

-- ---- For the parts alone

-- a walk of least cost by these costs, with its length, or that there is none
abbrev pub IsWalkOver : (plan : Plan) (costs : Costs) (from to : ℕ) (answer : Option PricedWalk) → Type 0
IsWalkOver plan costs from to answer =
    MatchOption answer (HasNoGridWalk plan costs from to)
    (λ walk. IsLeastGridWalk plan costs from to walk.cells walk.cost ×
    (walk.length ≡ walk_length plan walk.cells))

-- the same by a profile, which is accepted where it is bound
pub record IsWalkBy (plan : Plan) (from to : ℕ) (binding : Binding) (answer : Option PricedWalk) :
    Type 0 where
  pub terms : Terms
  pub accepted : ready_of binding ≡ Ok terms
  pub over : IsWalkOver plan (costs_by plan (bound_links binding)) from to answer
