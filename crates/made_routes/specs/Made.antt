-- The worlds that are made from a number, and what is answered over them (this project's own rule).
use Rattle.std.specs.Prelude.{◌≡◌, ◌≢◌, Some, None, Result, Ok, Err}
use Rattle.grid_map.specs.MapText.{overpass_text}
use Rattle.grid_map.specs.declared.plan.Plan.{Plan}
use Rattle.hgt_tiles.specs.Relief.{Relief}
use Rattle.hgt_tiles.specs.Tiles.{relief_at}
use Rattle.hgt_tiles.specs.declared.names.Corner.{Corner}
use Rattle.hgt_tiles.specs.declared.tile_set.Tiles.{Tiles}
use Rattle.lookup_table.specs.First.{TagTable}
use Rattle.made_routes.specs.Maps.{IsGridMap}
use Rattle.made_routes.specs.declared.error.MadeError.{MadeError}
use Rattle.made_routes.specs.declared.error.MadeError.TheVariants.{Route, NoMemory}
use Rattle.overpass_graph.specs.Builder.{IsMapOfText}
use Rattle.route_ready.specs.Worlds.{WorldValue}
use Rattle.route_ready.specs.declared.error.RouteError.{RouteError}

-- ---- Worlds

-- there is no tile
abbrev pub HaveNoTile : Tiles → Type 0
HaveNoTile tiles = (corner : Corner) → relief_at tiles corner ≡ None

-- there is this tile, and no other
pub record HaveTileAlone (relief : Relief) (tiles : Tiles) : Type 0 where
  pub there : relief_at tiles relief.corner ≡ Some relief
  pub alone : (corner : Corner) → corner ≢ relief.corner → relief_at tiles corner ≡ None

-- the world of a grid: this table, the map of the grid's own text, whose links are known by their numbers,
-- and these tiles
pub record IsMadeWorld (plan : Plan) (table : TagTable) (tiles : Tiles) (world : WorldValue) : Type 0 where
  pub table_is : world.table ≡ table
  pub map_is : IsMapOfText (overpass_text plan) world.map
  pub grid_is : IsGridMap plan world.map
  pub tiles_are : world.tiles ≡ tiles

-- ---- Answers

-- a call over a map that is made gives such an answer, or such a refusal of a request, or reports want of
-- memory
abbrev pub Makes : {T : Type 0} → (T → Type 0) → (RouteError → Type 0) → Result T MadeError → Type 0
Makes Answers Refuses (Ok answer) = Answers answer
Makes Answers Refuses (Err (Route error)) = Refuses error
Makes Answers Refuses (Err NoMemory) = Unit {0}

-- no request is refused
abbrev pub RefusesNothing : RouteError → Type 0
RefusesNothing error = ⊥
