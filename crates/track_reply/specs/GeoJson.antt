-- The reply as GeoJSON on one line, after RFC 7946; its properties are this project's own rule.
use Rattle.std.specs.Prelude.{ℕ, ℤ, pos, Bool, cond, ◌==◌, List, ◌++◌, length, codes, decimal, Option, Some, None}
use Rattle.std.specs.List.{flat_map, join_by}
use Rattle.fixed_num.specs.Text.{mil6}
use Rattle.geo_int.specs.Place.{Place}
use Rattle.geo_int.specs.Texts.{height_text, metres_text}
use Rattle.overpass_graph.specs.Maps.{MapValue, link_of}
use Rattle.track_legs.specs.Rows.{rows_of}
use Rattle.track_legs.specs.Tracks.{node_at}
use Rattle.track_legs.specs.declared.row.Row.{Row}
use Rattle.track_legs.specs.declared.track.Leg.{Leg}
use Rattle.track_legs.specs.declared.track.Track.{Track}
use Rattle.track_reply.specs.Earlier.{numbers_of, walks_of}
use Rattle.track_reply.specs.Escapes.{escaped}
use Rattle.track_reply.specs.Joined.{comma}
use Rattle.track_reply.specs.Rows.{header_text, row_text}
use Rattle.track_reply.specs.Source.{Source, end_spot, spot_of}
use Rattle.track_reply.specs.Steps.{way_id_of}
use Rattle.track_legs.specs.Sums.{total_cost, total_rank}
use Rattle.track_reply.specs.Sums.{total_length}
use Rattle.track_reply.specs.declared.style.Style.TheVariants.{Json}

-- ---- Walks

-- the end of a link's array: 0 forward, 1 backward
abbrev pub direction_end : Bool → List ℕ
direction_end back = cond back (codes ",1]") (codes ",0]")

-- a link as `[way,segment,direction]`
unfoldable pub step_array : MapValue → ℕ → List ℕ
step_array map link =
    codes "[" ++ (way_id_of map link ++
    (comma ++ (decimal (link_of map link).segment ++ direction_end (link_of map link).back)))

-- a walk as an array of its links
unfoldable pub walk_array : MapValue → List ℕ → List ℕ
walk_array map walk = codes "[" ++ (join_by (step_array map) comma walk ++ codes "]")

-- the walks of legs
unfoldable pub legs_text : MapValue → List Leg → List ℕ
legs_text map legs = join_by (λ leg. walk_array map leg.links) comma legs

-- the walks of an earlier alternative as an array
unfoldable pub alternative_array : MapValue → List (List ℕ) → List ℕ
alternative_array map walks = codes "[" ++ (join_by (walk_array map) comma walks ++ codes "]")

-- the earlier alternatives, one after the other
unfoldable pub earlier_text : MapValue → List (List (List ℕ)) → List ℕ
earlier_text map earlier =
    join_by (λ number. alternative_array map (walks_of earlier number)) comma (numbers_of earlier)

-- ---- Positions

-- the height of a position, if it is known, and its end
abbrev pub height_end : Option ℤ → List ℕ
height_end None = codes "]"
height_end (Some height) = comma ++ (height_text height ++ codes "]")

-- a place as `[longitude,latitude]` in degrees, with its height in metres where that is known
unfoldable pub position_text : (Place → Option ℤ) → Place → List ℕ
position_text height at = codes "[" ++ (mil6 at.lon ++ (comma ++ (mil6 at.lat ++ height_end (height at))))

-- a position behind a comma
abbrev pub next_position : (Place → Option ℤ) → Place → List ℕ
next_position height at = comma ++ position_text height at

-- the positions behind that of the first node: the ends of all links, or the first node again where there is
-- no link
abbrev pub positions_behind : (map : MapValue) (height : Place → Option ℤ) (first : Place)
    (rows : List Row) → List ℕ
positions_behind map height first rows =
    cond (length rows == 0) (next_position height first)
    (flat_map (λ row. next_position height (end_spot map row.link)) rows)

-- the positions of a track that begins at a place
unfoldable pub positions_text : (map : MapValue) (height : Place → Option ℤ) (first : Place)
    (rows : List Row) → List ℕ
positions_text map height first rows = position_text height first ++ positions_behind map height first rows

-- ---- The reply

-- a row as an array behind a comma
abbrev pub row_array : Source → Row → List ℕ
row_array source row = codes ",[\"" ++ (row_text Json source row ++ codes "\"]")

-- what stands before the name
unfoldable pub name_head : List ℕ
name_head =
    codes
    "{\"type\":\"FeatureCollection\",\"features\":[{\"type\":\"Feature\",\"properties\":{\"creator\":\"route_serve\",\"name\":\""

-- up to the name: that of the profile, and the number of the alternative
unfoldable pub name_part : List ℕ → ℕ → List ℕ
name_part name alternative = name_head ++ (escaped name ++ (codes "_" ++ decimal alternative))

-- the length of all links
unfoldable pub length_part : ℕ → List ℕ
length_part length = codes "\",\"track-length\":\"" ++ metres_text length

-- the cost of all legs
unfoldable pub cost_part : List Leg → List ℕ
cost_part legs = codes "\",\"cost\":\"" ++ mil6 (pos (total_cost legs))

-- the rank of all legs
unfoldable pub rank_part : List Leg → List ℕ
rank_part legs = codes "\",\"rank\":\"" ++ mil6 (pos (total_rank legs))

-- the length of all links, the cost and the rank of all legs
unfoldable pub sums_part : ℕ → List Leg → List ℕ
sums_part length legs = length_part length ++ (cost_part legs ++ rank_part legs)

-- the rows, the header first
unfoldable pub messages_part : Source → List Row → List ℕ
messages_part source rows =
    codes "\",\"messages\":[[\"" ++ (header_text Json ++ (codes "\"]" ++ flat_map (row_array source) rows))

-- the walks of the legs
unfoldable pub legs_part : MapValue → Track → List ℕ
legs_part map track = codes "],\"walk\":[" ++ legs_text map track.legs

-- the walks of earlier alternatives
unfoldable pub earlier_part : MapValue → Track → List ℕ
earlier_part map track = codes "],\"earlier\":[" ++ (earlier_text map track.earlier ++ codes "]}")

-- the walks of the legs and of earlier alternatives
unfoldable pub walks_part : MapValue → Track → List ℕ
walks_part map track = legs_part map track ++ earlier_part map track

-- the line of a track that begins at a place
unfoldable pub line_text : (map : MapValue) (height : Place → Option ℤ) (first : Place) (rows : List Row)
    → List ℕ
line_text map height first rows =
    codes ",\"geometry\":{\"type\":\"LineString\",\"coordinates\":[" ++
    (positions_text map height first rows ++ codes "]}}]}\n")

-- the bytes of the reply
unfoldable pub geojson_of : Source → Track → List ℕ
geojson_of source track =
    let rows = rows_of source.prices source.links.facts track in
    let first = spot_of source.map (node_at track 0) in
    name_part source.name source.alternative
    ++ (sums_part (total_length source.links.facts rows) track.legs
    ++ (messages_part source rows ++
    (walks_part source.map track ++ line_text source.map source.height first rows)))
