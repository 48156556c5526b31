-- How the text of a grid's map is read (this project's own rule).
use Rattle.std.specs.Prelude.{◌≡◌, ℕ, List, ◌++◌}
use Rattle.grid_map.specs.MapText.{overpass_text}
use Rattle.grid_map.specs.Plan.{IsPlan}
use Rattle.grid_map.specs.declared.plan.Plan.{Plan}
use Rattle.made_routes.specs.Maps.{IsGridMap}
use Rattle.map_tables.specs.declared.error.MapError.{MapError}
use Rattle.overpass_graph.specs.Builder.{IsFaultOfBeginning, IsFaultOfText, IsMapOfText}
use Rattle.overpass_graph.specs.Maps.{MapValue}

-- the text of a grid's map has no fault, neither in a beginning nor as a whole, and its map is the grid's
pub record IsReadAsGrid (plan : Plan) : Type 0 where
  pub before : (front rest : List ℕ) (fault : MapError) → front ++ rest ≡ overpass_text plan →
      IsFaultOfBeginning front fault → ⊥
  pub behind : (fault : MapError) → IsFaultOfText (overpass_text plan) fault → ⊥
  pub map : (map : MapValue) → IsMapOfText (overpass_text plan) map → IsGridMap plan map

-- the texts of all grids are read so
abbrev pub AreReadAsGrids : Type 0
AreReadAsGrids = (plan : Plan) → IsPlan plan → IsReadAsGrid plan
