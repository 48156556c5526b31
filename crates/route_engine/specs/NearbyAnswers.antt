-- The answer to a request for what lies within a cost of its waypoints, and its bytes: lines, or GeoJSON after
-- RFC 7946, whose properties are this project's own rule.
use Rattle.std.specs.Prelude.{◌≡◌, ℕ, ℤ, suc, pos, ◌+◌, ◌*◌, ◌<◌, ◌<ℤ◌, List, [], ◌∷◌, ◌++◌, length, get_or, codes, decimal, Result, Vec}
use Rattle.std.specs.Fmt.{signed_decimal}
use Rattle.std.specs.List.{flat_map, join_by}
use Rattle.std.specs.declared.alloc.Global.{Global}
use Rattle.fixed_num.specs.Text.{mil6}
use Rattle.overpass_graph.specs.Maps.{MapValue, node_at}
use Rattle.route_engine.specs.Answers.{IsAnswerOf}
use Rattle.route_engine.specs.Nearby.{AreNearby, Costed, IsNearbyRefusal, lists_in}
use Rattle.route_engine.specs.Plans.{Plan}
use Rattle.route_engine.specs.Replies.{IsReplyOf, TellsOn}
use Rattle.route_engine.specs.Settings.{Question}
use Rattle.route_engine.specs.declared.within.Nearby.{Nearby}
use Rattle.route_http.specs.Asked.{Asked}
use Rattle.route_http.specs.declared.form.Form.{Form}
use Rattle.route_http.specs.declared.form.Form.TheVariants.{GeoJson, Csv}
use Rattle.route_ready.specs.declared.error.RouteError.{RouteError}
use Rattle.track_reply.specs.Escapes.{escaped}
use Rattle.track_reply.specs.GeoJson.{position_text}
use Rattle.track_reply.specs.Joined.{comma}
use Rattle.track_reply.specs.Source.{Source, spot_of}

-- ---- The answer

-- this is what lies within the cost of a plan
pub record IsNearbyFor (plan : Plan) (nearby : Nearby) : Type 0 where
  pub cost : nearby.cost ≡ plan.cost
  pub lists : AreNearby plan plan.cost nearby.lists

-- why it isn't told
abbrev pub RefusesNearby : Plan → RouteError → Type 0
RefusesNearby plan = IsNearbyRefusal plan plan.cost

-- the answer to a request for what lies within a cost of its waypoints
abbrev pub IsNearbyAnswer : Question → Result Nearby RouteError → Type 0
IsNearbyAnswer = IsAnswerOf IsNearbyFor RefusesNearby

-- ---- Nodes of the map

-- the node at a place of a list
abbrev pub node_in : Costed → ℕ → ℕ
node_in list place = (get_or list place (0, 0)).0

-- the nodes of a list are nodes of a map
abbrev pub AreOnMap : MapValue → Costed → Type 0
AreOnMap map list = (place : ℕ) → place < length list → node_in list place < length map.nodes

-- the nodes of each of these lists are
abbrev pub AreAllOnMap : MapValue → List Costed → Type 0
AreAllOnMap map lists = (number : ℕ) → number < length lists → AreOnMap map (get_or lists number [])

-- the id of a node of a map
abbrev pub id_of : MapValue → ℕ → ℤ
id_of map node = (node_at map.nodes node).id

-- the nodes of a list are nodes of a map, and stand by ascending id
pub record IsByIds (map : MapValue) (list : Costed) : Type 0 where
  pub there : AreOnMap map list
  pub rising : (i j : ℕ) → i < j → j < length list → id_of map (node_in list i) <ℤ id_of map (node_in list j)

-- so it is of each of these lists
abbrev pub AreAllByIds : MapValue → List Costed → Type 0
AreAllByIds map lists = (number : ℕ) → number < length lists → IsByIds map (get_or lists number [])

-- ---- Lines

-- the line of a node: the number of a waypoint, the node's id, and what it costs to come there from the waypoint
abbrev pub near_text : (number : ℕ) (id : ℤ) (cost : ℕ) → List ℕ
near_text number id cost = decimal number ++ (32 ∷ (signed_decimal id ++ (32 ∷ (mil6 (pos cost) ++ 10 ∷ []))))

-- the lines of the nodes of a waypoint, in their order
abbrev pub nearby_text : MapValue → (number : ℕ) → Costed → List ℕ
nearby_text map number list = flat_map (λ (entry : ℕ × ℕ). near_text number (id_of map entry.0) entry.1) list

-- the lines of waypoints that are numbered from here on
abbrev pub lines_from : MapValue → (number : ℕ) → List Costed → List ℕ
lines_from map number [] = []
lines_from map number (list ∷ lists) = nearby_text map number list ++ lines_from map (suc number) lists

-- the lines of all waypoints, which are numbered from 0
unfoldable pub within_lines : MapValue → List Costed → List ℕ
within_lines map lists = lines_from map 0 lists

-- ---- GeoJSON

-- the cost of a node, in quotation marks
abbrev pub near_cost : ℕ × ℕ → List ℕ
near_cost entry = codes "\"" ++ (mil6 (pos entry.1) ++ codes "\"")

-- the id of a node
abbrev pub near_id : MapValue → ℕ × ℕ → List ℕ
near_id map entry = signed_decimal (id_of map entry.0)

-- where a node lies, as a position of a track
abbrev pub near_position : Source → ℕ × ℕ → List ℕ
near_position source entry = position_text source.height (spot_of source.map entry.0)

-- what stands before the name
unfoldable pub feature_head : List ℕ
feature_head = codes "{\"type\":\"Feature\",\"properties\":{\"creator\":\"route_serve\",\"name\":\""

-- up to the name: that of the profile, and the number of the alternative
unfoldable pub feature_name : Source → List ℕ
feature_name source = feature_head ++ (escaped source.name ++ (codes "_" ++ decimal source.alternative))

-- the cost that is asked for
unfoldable pub asked_part : ℕ → List ℕ
asked_part cost = codes "\",\"cost\":\"" ++ mil6 (pos cost)

-- the ids of the nodes
unfoldable pub nodes_part : MapValue → Costed → List ℕ
nodes_part map list = codes "\",\"nodes\":[" ++ join_by (near_id map) comma list

-- the costs of the nodes
unfoldable pub costs_part : Costed → List ℕ
costs_part list = codes "],\"costs\":[" ++ join_by near_cost comma list

-- the places of the nodes
unfoldable pub points_part : Source → Costed → List ℕ
points_part source list =
    codes "]},\"geometry\":{\"type\":\"MultiPoint\",\"coordinates\":[" ++
    (join_by (near_position source) comma list ++ codes "]}}")

-- the nodes of a waypoint with their costs and their places
unfoldable pub list_part : Source → Costed → List ℕ
list_part source list = nodes_part source.map list ++ (costs_part list ++ points_part source list)

-- the feature of a waypoint
unfoldable pub feature : Source → (cost : ℕ) → Costed → List ℕ
feature source cost list = feature_name source ++ (asked_part cost ++ list_part source list)

-- the collection of the features of all waypoints, in their order, as one line
unfoldable pub within_geojson : Source → (cost : ℕ) → List Costed → List ℕ
within_geojson source cost lists =
    codes "{\"type\":\"FeatureCollection\",\"features\":[" ++
    (join_by (feature source cost) comma lists ++ codes "]}\n")

-- ---- Its bytes

-- what is told in a reply, by its form
abbrev pub nearby_reply : Form → Source → Nearby → List ℕ
nearby_reply GeoJson source nearby = within_geojson source nearby.cost (lists_in nearby.lists.items)
nearby_reply Csv source nearby = within_lines source.map (lists_in nearby.lists.items)

-- these bytes tell what answers the request
abbrev pub IsNearbyReply : Question → List ℕ → Type 0
IsNearbyReply = IsReplyOf IsNearbyFor RefusesNearby nearby_reply

-- a call gives them, or why it isn't told, or reports want of memory
abbrev pub TellsNearby : Question → Result (List ℕ) RouteError → Type 0
TellsNearby = TellsOn IsNearbyFor RefusesNearby nearby_reply

-- ---- How much is counted

-- the most that is counted for what lies within a cost of a waypoint on a map of so many nodes: the labels that are
-- settled, and the nodes that are looked at for its list
abbrev pub most_for_list : (nodes limit : ℕ) → ℕ
most_for_list nodes limit = limit + nodes

-- and for its text: three rows for each node, and what stands before and behind them
abbrev pub most_for_feature : (nodes : ℕ) → ℕ
most_for_feature nodes = 3 * nodes + 4

-- the most that is counted for the text of so many waypoints, and its end
abbrev pub most_for_features : (nodes waypoints : ℕ) → ℕ
most_for_features nodes waypoints = waypoints * most_for_feature nodes + 1

-- the most that is counted for a request
abbrev pub most_for_nearby : (nodes : ℕ) → Asked → ℕ
most_for_nearby nodes asked =
    length asked.waypoints * most_for_list nodes asked.labels + most_for_features nodes (length asked.waypoints)
