-- The text of what lies within a cost, as it is written in steps. This project's own rule.
use Rattle.std.specs.Prelude.{◌≡◌, ℕ, suc, ◌+◌, ◌-◌, ◌*◌, ◌<◌, ◌≤◌, ◌^◌, List, [], ◌∷◌, ◌++◌, length, drop, codes, Option, Some, None}
use Rattle.std.specs.Vec.Iter.{into_iter_items}
use Rattle.overpass_graph.specs.Maps.{MapValue}
use Rattle.route_engine.specs.Nearby.{Costed, lists_in}
use Rattle.route_engine.specs.NearbyAnswers.{AreOnMap, asked_part, costs_part, feature_name, most_for_features, near_cost, near_id, near_position, nearby_text, points_part}
use Rattle.route_engine.specs.Told.{source_by}
use Rattle.route_engine.specs.declared.nearby_parts.Part.{Part}
use Rattle.route_engine.specs.declared.nearby_parts.Part.TheVariants.{Ids, Costs, Places, Lines}
use Rattle.route_engine.specs.declared.nearby_text.Lists.{Lists}
use Rattle.route_engine.specs.declared.nearby_text.NearbyText.{NearbyText}
use Rattle.route_engine.specs.declared.nearby_text.Rows.{Rows}
use Rattle.route_engine.specs.declared.told.Told.{Told}
use Rattle.route_engine.specs.declared.within.Nearby.{Nearby}
use Rattle.route_http.specs.declared.form.Form.{Form}
use Rattle.route_http.specs.declared.form.Form.TheVariants.{GeoJson, Csv}
use Rattle.route_ready.specs.Worlds.{WorldValue}
use Rattle.route_ready.specs.declared.ready.Ready.{Ready}
use Rattle.track_reply.specs.Joined.{comma_before}
use Rattle.track_reply.specs.Source.{Source}

-- ---- What is still to be written

-- the texts of items from a place on, each behind a comma but that of the first
abbrev pub items_from : {A : Type 0} → (A → List ℕ) → (place : ℕ) → List A → List ℕ
items_from f place [] = []
items_from f place (x ∷ xs) = comma_before place ++ (f x ++ items_from f (suc place) xs)

-- those of a list from a place on
abbrev pub items_behind : {A : Type 0} → (A → List ℕ) → (place : ℕ) → List A → List ℕ
items_behind f place list = items_from f place (drop place list)

-- what stands before the first list, by the form of a reply
abbrev pub reply_head : Form → List ℕ
reply_head GeoJson = codes "{\"type\":\"FeatureCollection\",\"features\":["
reply_head Csv = []

-- what stands behind the last one
abbrev pub lists_end : Form → List ℕ
lists_end GeoJson = codes "]}\n"
lists_end Csv = []

-- what stands before the ids of the nodes of the waypoint of a number
unfoldable pub feature_begin : Source → (cost number : ℕ) → List ℕ
feature_begin source cost number =
    comma_before number ++ (feature_name source ++ (asked_part cost ++ codes "\",\"nodes\":["))

-- what stands before the first row of a list
abbrev pub list_head : Form → Source → (cost number : ℕ) → List ℕ
list_head GeoJson source cost number = feature_begin source cost number
list_head Csv source cost number = []

-- the part of a list that is written first
abbrev pub first_part : Form → Part
first_part GeoJson = Ids
first_part Csv = Lines

-- the rows of a part of a list from a place on
abbrev pub part_rows : Part → Source → (number : ℕ) → Costed → (place : ℕ) → List ℕ
part_rows Ids source number list place = items_behind (near_id source.map) place list
part_rows Costs source number list place = items_behind near_cost place list
part_rows Places source number list place = items_behind (near_position source) place list
part_rows Lines source number list place = nearby_text source.map number (drop place list)

-- what stands behind the rows of a part
abbrev pub part_end : Part → Source → Costed → List ℕ
part_end Ids source list = costs_part list ++ points_part source list
part_end Costs source list = points_part source list
part_end Places source list = codes "]}}"
part_end Lines source list = []

-- a list from a place of a part on
abbrev pub rows_from : Source → (number : ℕ) → Part → Costed → (place : ℕ) → List ℕ
rows_from source number part list place = part_rows part source number list place ++ part_end part source list

-- and from the beginning of a part on; nothing where none is left
abbrev pub parts_from : Source → (number : ℕ) → Option Part → Costed → List ℕ
parts_from source number None list = []
parts_from source number (Some part) list = rows_from source number part list 0

-- the lists of waypoints from a number on
abbrev pub lists_text : Form → Source → (cost number : ℕ) → List Costed → List ℕ
lists_text form source cost number [] = lists_end form
lists_text form source cost number (list ∷ lists) =
    list_head form source cost number ++
    (rows_from source number (first_part form) list 0 ++ lists_text form source cost (suc number) lists)

-- what is still to be written of a list and of those behind it
abbrev pub rest_text : Form → Source → (cost number : ℕ) → Option Rows → List Costed → List ℕ
rest_text form source cost number None lists = lists_text form source cost number lists
rest_text form source cost number (Some rows) lists =
    rows_from source number rows.part rows.list.items rows.place ++ lists_text form source cost (suc number) lists

-- the lists that are behind the one that is written
abbrev pub lists_behind : Lists → List Costed
lists_behind lists = lists_in (into_iter_items lists.rest)

-- what a text comes to: what is written, and behind that what is still to be
abbrev pub nearby_comes_to : WorldValue → Ready → Told → NearbyText → List ℕ
nearby_comes_to world ready told text =
    text.text.items ++ rest_text told.form (source_by world ready told) text.lists.cost text.lists.number text.rows
    (lists_behind text.lists)

-- how many rows and ends of parts are left behind a part, of a list on a map of so many nodes
abbrev pub parts_left : (nodes : ℕ) → Part → ℕ
parts_left nodes Ids = 2 * nodes + 3
parts_left nodes Costs = nodes + 2
parts_left nodes Places = 1
parts_left nodes Lines = 1

-- and from the beginning of a part on
abbrev pub parts_cost : (nodes : ℕ) → Option Part → ℕ
parts_cost nodes None = 0
parts_cost nodes (Some part) = nodes + parts_left nodes part

-- behind a part the text has grown, and the next part follows, of whatever list; with fewer rows left
pub record GoesToPart (before after : List ℕ) (part : Part) (next : Option Part) : Type 0 where
  pub follows : (source : Source) (number : ℕ) (list : Costed) →
      after ++ parts_from source number next list ≡ before ++ part_end part source list
  pub fewer : (nodes : ℕ) → parts_cost nodes next < parts_left nodes part

-- ---- What holds of it

-- a list is of nodes of a map, and no longer than it
pub record FitsMap (map : MapValue) (list : Costed) : Type 0 where
  pub there : AreOnMap map list
  pub few : length list ≤ length map.nodes

-- so is each of these
abbrev pub FitMap : MapValue → List Costed → Type 0
FitMap map [] = Unit {0}
FitMap map (list ∷ lists) = FitsMap map list × FitMap map lists

-- the rows of a list from a place of it on
pub record AreRows (map : MapValue) (rows : Rows) : Type 0 where
  pub fits : FitsMap map rows.list.items
  pub within : rows.place ≤ length rows.list.items

-- where a list is being written, so it is
abbrev pub AreRowsOf : MapValue → Option Rows → Type 0
AreRowsOf map None = Unit {0}
AreRowsOf map (Some rows) = AreRows map rows

-- one where a list is being written
abbrev pub begun_of : Option Rows → ℕ
begun_of None = 0
begun_of (Some rows) = 1

-- it is a text over a world
pub record IsNearbyText (world : WorldValue) (text : NearbyText) : Type 0 where
  pub rows : AreRowsOf world.map text.rows
  pub lists : FitMap world.map (lists_behind text.lists)
  pub few : text.lists.number + (begun_of text.rows + length (lists_behind text.lists)) < 2 ^ 64

-- ---- How much is left

-- how much may still be spent on a list
abbrev pub rows_left : (nodes : ℕ) → Option Rows → ℕ
rows_left nodes None = 0
rows_left nodes (Some rows) = (nodes - rows.place) + parts_left nodes rows.part

-- how much may still be spent on a text
abbrev pub text_left : WorldValue → NearbyText → ℕ
text_left world text =
    let nodes = length world.map.nodes in
    rows_left nodes text.rows + most_for_features nodes (length (lists_behind text.lists))

-- the most that is spent on the text of what lies within a cost
abbrev pub nearby_to_write : WorldValue → Nearby → ℕ
nearby_to_write world nearby = most_for_features (length world.map.nodes) (length (lists_in nearby.lists.items))
