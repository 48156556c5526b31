-- The route across a grid with heights, between its opposite corners (this project's own rule).
use Rattle.std.specs.Prelude.{◌≡◌, ◌-◌, false, [], ◌∷◌, length, Some, Ok, Err}
use Rattle.grid_map.specs.Lengths.{cell_place}
use Rattle.grid_map.specs.Plan.{cells_of}
use Rattle.grid_map.specs.Segments.{segments_of}
use Rattle.grid_map.specs.Tile.{hgt_bytes}
use Rattle.grid_map.specs.declared.plan.Plan.{Plan}
use Rattle.hgt_tiles.specs.File.{relief_of_file}
use Rattle.hgt_tiles.specs.Relief.{Relief}
use Rattle.hgt_tiles.specs.declared.tile_set.Tiles.{Tiles}
use Rattle.lookup_table.specs.First.{TagTable}
use Rattle.lookup_table.specs.Table.{table_of}
use Rattle.made_routes.specs.Made.{HaveTileAlone, IsMadeWorld}
use Rattle.made_routes.specs.Texts.{hill_text, look_text, tile_name}
use Rattle.made_routes.specs.declared.summary.Hills.{Hills}
use Rattle.profile_text.specs.Read.{profile_of}
use Rattle.profile_text.specs.Tree.{Sections}
use Rattle.route_engine.specs.Answers.{IsAnswer}
use Rattle.route_engine.specs.Settings.{Question}
use Rattle.route_http.specs.Asked.{Asked}
use Rattle.route_http.specs.declared.form.Form.TheVariants.{GeoJson}
use Rattle.route_ready.specs.Worlds.{WorldValue, binding_in}
use Rattle.route_ready.specs.declared.error.RouteError.{RouteError}
use Rattle.track_legs.specs.Sums.{total_cost}
use Rattle.track_legs.specs.declared.track.Track.{Track}

-- the request between opposite corners: one leg from the first cell to the last, no circles, the first
-- alternative, 10,000,000 labels at most, no overrides, not by junction runs
abbrev pub corners_asked : Plan → Asked
corners_asked plan = record {
  waypoints = cell_place plan 0 ∷ cell_place plan (cells_of plan - 1) ∷ [];
  circles = [];
  profile = [];
  alternative = 0;
  form = GeoJson;
  labels = 10000000;
  overrides = [];
  runs = false;
  cost = 0;
  sources = [];
  destinations = [];
}

-- the tag table, the tile of the seed and the profile that hills are crossed by
pub record AreHillParts (plan : Plan) (table : TagTable) (relief : Relief) (sections : Sections) :
    Type 0 where
  pub table_is : table_of look_text ≡ Ok table
  pub relief_is : relief_of_file tile_name (hgt_bytes plan.seed) ≡ Ok relief
  pub sections_are : profile_of hill_text ≡ Ok sections

-- the question that hills put: the request between opposite corners by that profile, over the grid's own map
-- with that table and that tile alone
pub record IsHillQuestion (plan : Plan) (question : Question) : Type 0 where
  pub table : TagTable
  pub relief : Relief
  pub sections : Sections
  pub parts : AreHillParts plan table relief sections
  pub tiles : Tiles
  pub alone : HaveTileAlone relief tiles
  pub world : WorldValue
  pub made : IsMadeWorld plan table tiles world
  pub binding : question.binding ≡ binding_in world sections []
  pub asked : question.asked ≡ corners_asked plan

-- the numbers of cells and segments, and the cost of a track that answers the question
pub record IsHillsFound (plan : Plan) (found : Hills) : Type 0 where
  pub nodes_are : found.nodes ≡ cells_of plan
  pub segments_are : found.segments ≡ length (segments_of plan)
  pub question : Question
  pub is : IsHillQuestion plan question
  pub track : Track
  pub answers : IsAnswer question (Ok track)
  pub cost_is : found.cost ≡ total_cost track.legs

-- why the question has no track
pub record IsHillsRefusal (plan : Plan) (error : RouteError) : Type 0 where
  pub question : Question
  pub is : IsHillQuestion plan question
  pub answers : IsAnswer question (Err error)

-- ---- For the parts alone

-- the world that hills are crossed in
pub record IsHillWorld (plan : Plan) (world : WorldValue) : Type 0 where
  pub table : TagTable
  pub relief : Relief
  pub table_is : table_of look_text ≡ Ok table
  pub relief_is : relief_of_file tile_name (hgt_bytes plan.seed) ≡ Ok relief
  pub tiles : Tiles
  pub alone : HaveTileAlone relief tiles
  pub made : IsMadeWorld plan table tiles world

-- a track that answers the question
pub record IsHillTrack (plan : Plan) (track : Track) : Type 0 where
  pub question : Question
  pub is : IsHillQuestion plan question
  pub answers : IsAnswer question (Ok track)
