-- The route across hills: its world, its request, and what is told of its track.
use Rattle.std.proofs.Common.{◌≡◌, ◌⊎◌, ℕ, ℤ, ◌-◌, ◌*◌, ◌<◌, ◌≤◌, ◌^◌, false, List, [], ◌∷◌, ◌++◌, length, Some, Result, Ok, Err, IfOk, refl, sym, ap, ◌∙◌, subst, arith}
use Rattle.std.proofs.lemmas.Nat.{mul-le}
use Rattle.geo_int.specs.Place.{Place}
use Rattle.geo_int.specs.Spot.{place_of}
use Rattle.geo_int.specs.declared.spots.Spot.{Spot}
use Rattle.grid_map.proofs.NumberLemmas.{cells_of-within}
use Rattle.grid_map.specs.Lengths.{cell_place}
use Rattle.grid_map.specs.Plan.{IsPlan, cells_of}
use Rattle.grid_map.specs.Segments.{segments_of}
use Rattle.grid_map.specs.Tile.{hgt_bytes}
use Rattle.grid_map.specs.declared.plan.Plan.{Plan}
use Rattle.hgt_tiles.specs.File.{relief_of_file}
use Rattle.hgt_tiles.specs.Relief.{Relief}
use Rattle.hgt_tiles.specs.declared.tile_set.Tiles.{Tiles}
use Rattle.lookup_table.specs.First.{TagTable}
use Rattle.lookup_table.specs.Table.{table_of}
use Rattle.made_routes.proofs.TellLemmas.{route-told, tells-by}
use Rattle.made_routes.specs.Errors.{route_error}
use Rattle.made_routes.specs.Hills.{IsHillQuestion, IsHillTrack, IsHillWorld, IsHillsFound, IsHillsRefusal, corners_asked}
use Rattle.made_routes.specs.Made.{HaveTileAlone, IsMadeWorld, Makes}
use Rattle.made_routes.specs.Texts.{hill_text, look_text, tile_name}
use Rattle.made_routes.specs.declared.error.MadeError.{MadeError}
use Rattle.made_routes.specs.declared.error.MadeError.TheVariants.{Route, NoMemory}
use Rattle.made_routes.specs.declared.summary.Hills.{Hills}
use Rattle.profile_text.specs.Read.{profile_of}
use Rattle.profile_text.specs.Tree.{Sections}
use Rattle.route_engine.specs.Answers.{IsAnswer, early, found, refused}
use Rattle.route_engine.specs.Jobs.{IsWithin}
use Rattle.route_engine.specs.Settings.{Question}
use Rattle.route_http.specs.Asked.{Asked}
use Rattle.route_http.specs.Numbers.{AreBelow}
use Rattle.route_http.specs.Seen.{places}
use Rattle.route_http.specs.declared.form.Form.TheVariants.{GeoJson}
use Rattle.route_ready.specs.World.{world_of}
use Rattle.route_ready.specs.Worlds.{WorldValue, binding_in}
use Rattle.route_ready.specs.declared.error.RouteError.{RouteError}
use Rattle.route_ready.specs.declared.error.RouteError.TheVariants as refusal
use Rattle.route_ready.specs.declared.world.World.{World}
use Rattle.track_legs.specs.Sums.{total_cost}
use Rattle.track_legs.specs.declared.track.Track.{Track}

-- ---- The number of cells

-- there is a cell
pub cells-some : (plan : Plan) → IsPlan plan → 1 ≤ cells_of plan
cells-some plan is = mul-le 1 1 plan.width plan.height is.some_width is.some_height

-- there are at most a million cells
pub cells-few : (plan : Plan) (width height : ℕ) → IsPlan plan → width ≡ plan.width → height ≡ plan.height → width * height ≤ 1000000
cells-few plan width height is wide high =
    subst (λ (n : ℕ). n * height ≤ 1000000) (sym wide) (subst (λ (n : ℕ). plan.width * n ≤ 1000000) (sym high) (cells_of-within plan is))

-- ---- The request

-- the places of two spots that are put into a list
pub corners-are : (plan : Plan) (last : ℕ) (first second : Spot) (none one both : List Spot) → last ≡ cells_of plan - 1 →
    place_of first ≡ cell_place plan 0 → place_of second ≡ cell_place plan last → none ≡ [] → one ≡ none ++ first ∷ [] →
    both ≡ one ++ second ∷ [] →
    places both ≡ cell_place plan 0 ∷ cell_place plan (cells_of plan - 1) ∷ []
corners-are plan last first second none one both is at_first at_second empty puts_first puts_second =
    ap places (puts_second ∙ ap (λ (l : List Spot). l ++ second ∷ []) (puts_first ∙ ap (λ (l : List Spot). l ++ first ∷ []) empty))
    ∙ ap (λ (p : Place). p ∷ place_of second ∷ []) at_first
    ∙ ap (λ (p : Place). cell_place plan 0 ∷ p ∷ []) (at_second ∙ ap (cell_place plan) is)

-- a request of the kind of hills
abbrev request : List Place → List (Place × ℕ) → List ℕ → List (List ℕ × ℤ) → (sources destinations : List ℕ) → Asked
request waypoints circles profile overrides sources destinations = record {
  waypoints = waypoints;
  circles = circles;
  profile = profile;
  alternative = 0;
  form = GeoJson;
  labels = 10000000;
  overrides = overrides;
  runs = false;
  cost = 0;
  sources = sources;
  destinations = destinations;
}

-- such a request between the corners
pub request-is : (plan : Plan) (waypoints : List Place) (circles : List (Place × ℕ)) (profile : List ℕ) (overrides : List (List ℕ × ℤ))
    (sources destinations : List ℕ) → waypoints ≡ cell_place plan 0 ∷ cell_place plan (cells_of plan - 1) ∷ [] → circles ≡ [] → profile ≡ [] → overrides ≡ [] → sources ≡ [] →
    destinations ≡ [] → request waypoints circles profile overrides sources destinations ≡ corners_asked plan
request-is plan waypoints circles profile overrides sources destinations at no_circles no_profile no_overrides no_sources no_destinations =
    ap (λ (w : List Place). request w circles profile overrides sources destinations) at
    ∙ ap (λ (c : List (Place × ℕ)). request (corners_asked plan).waypoints c profile overrides sources destinations) no_circles
    ∙ ap (λ (p : List ℕ). request (corners_asked plan).waypoints [] p overrides sources destinations) no_profile
    ∙ ap (λ (o : List (List ℕ × ℤ)). request (corners_asked plan).waypoints [] [] o sources destinations) no_overrides
    ∙ ap (λ (s : List ℕ). request (corners_asked plan).waypoints [] [] [] s destinations) no_sources
    ∙ ap (λ (d : List ℕ). request (corners_asked plan).waypoints [] [] [] [] d) no_destinations

-- the request between the corners is within the limits of requests
pub corners-within : (plan : Plan) (asked : Asked) → asked ≡ corners_asked plan → IsWithin asked
corners-within plan asked is =
    subst IsWithin (sym is) (record { some = omega arith; few = omega arith; alternative = omega arith; labels = omega arith; sources = none-below; destinations = none-below })
  where
    none-below : AreBelow 2 []
    none-below = record { few = omega arith; each = λ k there. absurd (omega (arith, there)) }

-- ---- The question

module _ (world : WorldValue) (sections : Sections) (plan : Plan)
  where
    -- the question of a request
    abbrev pub question_by : Asked → Question
    question_by asked = record { binding = binding_in world sections asked.overrides; asked = asked }

    -- what answers the request between the corners
    pub answers-corners : (asked : Asked) (result : Result Track RouteError) → asked ≡ corners_asked plan →
        IsAnswer (question_by asked) result →
        IsAnswer (question_by (corners_asked plan)) result
    answers-corners asked result is answers = subst (λ (a : Asked). IsAnswer (question_by a) result) is answers

    -- the refusal of the request between the corners is told as such
    pub refusal-corners : (asked : Asked) (error : RouteError) (told : MadeError) → asked ≡ corners_asked plan → told ≡ route_error error →
        (error ≡ refusal.NoMemory) ⊎ IsAnswer (question_by asked) (Err error) →
        Makes {T = Track} (λ track. IsAnswer (question_by (corners_asked plan)) (Ok track))
        (λ error. IsAnswer (question_by (corners_asked plan)) (Err error)) (Err told)
    refusal-corners asked error told is told_is cause =
        route-told (λ (track : Track). IsAnswer (question_by (corners_asked plan)) (Ok track))
        (λ (e : RouteError). IsAnswer (question_by (corners_asked plan)) (Err e)) error told told_is
        (subst (λ (a : Asked). (error ≡ refusal.NoMemory) ⊎ IsAnswer (question_by a) (Err error)) is cause)

    -- it is the question of hills
    hill-question : IsHillWorld plan world → profile_of hill_text ≡ Ok sections → IsHillQuestion plan (question_by (corners_asked plan))
    hill-question is profile = record {
      table = is.table;
      relief = is.relief;
      sections = sections;
      parts = record { table_is = is.table_is; relief_is = is.relief_is; sections_are = profile };
      tiles = is.tiles;
      alone = is.alone;
      world = world;
      made = is.made;
      binding = refl;
      asked = refl;
    }

    -- what is told of the request between the corners is told of hills
    pub hills-told : (result : Result Track MadeError) → profile_of hill_text ≡ Ok sections → IsHillWorld plan world →
        Makes (λ track. IsAnswer (question_by (corners_asked plan)) (Ok track))
        (λ error. IsAnswer (question_by (corners_asked plan)) (Err error)) result →
        Makes (IsHillTrack plan) (IsHillsRefusal plan) result
    hills-told result profile is told =
        tells-by (λ (track : Track). IsAnswer (question_by (corners_asked plan)) (Ok track)) (IsHillTrack plan)
        (λ (error : RouteError). IsAnswer (question_by (corners_asked plan)) (Err error)) (IsHillsRefusal plan) result
        (λ track answers. record { question = question_by (corners_asked plan); is = hill-question is profile; answers = answers })
        (λ error answers. record { question = question_by (corners_asked plan); is = hill-question is profile; answers = answers }) told

-- ---- The world

-- a world with the table and the tile of hills is one of hills
pub hill-world : {E : Type 0} (plan : Plan) (seed : ℕ) (table : TagTable) (tiles : Tiles) (result : Result World E) → seed ≡ plan.seed →
    table_of look_text ≡ Ok table → ((relief : Relief) × (relief_of_file tile_name (hgt_bytes seed) ≡ Ok relief) ×
    HaveTileAlone relief tiles) →
    IfOk result (λ world. IsMadeWorld plan table tiles (world_of world)) → IfOk result (λ world. IsHillWorld plan (world_of world))
hill-world plan seed table tiles (Ok world) same table_is tile made = record {
  table = table;
  relief = tile.0;
  table_is = table_is;
  relief_is = subst (λ (n : ℕ). relief_of_file tile_name (hgt_bytes n) ≡ Ok tile.0) same tile.1;
  tiles = tiles;
  alone = tile.2;
  made = made;
}
hill-world plan seed table tiles (Err none) same table_is tile made = tt

-- ---- The track

-- the legs of a track that answers a question cost less than 2^127
answer-fits : (question : Question) (result : Result Track RouteError) → IsAnswer question result →
    IfOk result (λ track. total_cost track.legs < 2 ^ 127)
answer-fits question _ (early is) = tt
answer-fits question _ (refused of is) = tt
answer-fits question _ (found of is) = is.costs

-- the legs of a track across hills cost less than 2^127
pub track-fits : (plan : Plan) (track : Track) → IsHillTrack plan track → total_cost track.legs < 2 ^ 127
track-fits plan track is = answer-fits is.question (Ok track) is.answers

-- what is told of a track across hills
pub hills-found : (plan grid : Plan) (track : Track) (told : Hills) → grid ≡ plan → IsHillTrack grid track →
    told.cost ≡ total_cost track.legs →
    told.nodes ≡ cells_of grid → told.segments ≡ length (segments_of grid) → IsHillsFound plan told
hills-found plan grid track told same is cost nodes segments =
    subst (λ (p : Plan). IsHillsFound p told) same
    (record {
      nodes_are = nodes;
      segments_are = segments;
      question = is.question;
      is = is.is;
      track = track;
      answers = is.answers;
      cost_is = cost;
    })

-- why there is no track across hills
pub hills-refused : (plan grid : Plan) (error : MadeError) → grid ≡ plan →
    Makes {T = Track} (IsHillTrack grid) (IsHillsRefusal grid) (Err error) →
    Makes {T = Hills} (IsHillsFound plan) (IsHillsRefusal plan) (Err error)
hills-refused plan grid error same is =
    subst (λ (p : Plan). Makes {T = Hills} (IsHillsFound p) (IsHillsRefusal p) (Err error)) same (go error is)
  where
    go : (error : MadeError) → Makes {T = Track} (IsHillTrack grid) (IsHillsRefusal grid) (Err error) →
        Makes {T = Hills} (IsHillsFound grid) (IsHillsRefusal grid) (Err error)
    go (Route error) is = is
    go NoMemory is = tt
