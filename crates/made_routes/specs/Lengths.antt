-- How long a walk across a grid is (this project's own rule).
use Rattle.std.specs.Prelude.{ℕ, ◌+◌, ◌<◌, ◌≤◌, List, [], ◌∷◌}
use Rattle.geo_int.specs.Arrow.{length_between}
use Rattle.grid_map.specs.Lengths.{cell_place}
use Rattle.grid_map.specs.Plan.{cells_of}
use Rattle.grid_map.specs.declared.plan.Plan.{Plan}

-- the distance between two cells in millimetres
abbrev pub distance_between : Plan → ℕ → ℕ → ℕ
distance_between plan a b = length_between (cell_place plan a) (cell_place plan b)

-- the distances between cells that follow each other, in millimetres together
abbrev pub walk_length : Plan → List ℕ → ℕ
walk_length plan [] = 0
walk_length plan (cell ∷ []) = 0
walk_length plan (cell ∷ next ∷ cells) = distance_between plan cell next + walk_length plan (next ∷ cells)

-- ---- For the parts alone

-- two cells of the grid that are at most 100 kilometres apart
pub record IsShortStep (plan : Plan) (a b : ℕ) : Type 0 where
  pub from_in : a < cells_of plan
  pub to_in : b < cells_of plan
  pub short : distance_between plan a b ≤ 100000000

-- each two cells that follow each other are such
abbrev pub AreShortSteps : Plan → List ℕ → Type 0
AreShortSteps plan [] = Unit {0}
AreShortSteps plan (cell ∷ []) = Unit {0}
AreShortSteps plan (cell ∷ next ∷ cells) = IsShortStep plan cell next × AreShortSteps plan (next ∷ cells)
