-- The rows of a reply: a header, and a row of eleven fields for each link (this project's own rule).
use Rattle.std.specs.Prelude.{ℕ, ℤ, pos, Bool, List, [], ◌∷◌, ◌++◌, codes, Option, Some, None}
use Rattle.std.specs.Fmt.{signed_decimal}
use Rattle.std.specs.Int.{int_div_euclid}
use Rattle.cost_model.specs.declared.facts.LinkFacts.{LinkFacts}
use Rattle.cost_model.specs.declared.parts.Parts.{Parts}
use Rattle.fixed_num.specs.Text.{mil6}
use Rattle.geo_int.specs.Place.{Place}
use Rattle.geo_int.specs.Texts.{metres_text, height_text}
use Rattle.lookup_table.specs.First.{TagTable}
use Rattle.overpass_graph.specs.Maps.{MapValue}
use Rattle.track_legs.specs.declared.row.Row.{Row}
use Rattle.track_reply.specs.Source.{Source, end_spot}
use Rattle.track_reply.specs.Tags.{way_field, node_field}
use Rattle.track_reply.specs.Escapes.{escaped}
use Rattle.track_reply.specs.Joined.{parted, tab}
use Rattle.track_reply.specs.declared.style.Style.{Style}
use Rattle.track_reply.specs.declared.style.Style.TheVariants.{Lines, Json}

-- the names of the fields
abbrev pub columns : List (List ℕ)
columns =
    codes "Longitude" ∷ codes "Latitude" ∷ codes "Elevation" ∷ codes "Distance" ∷ codes "CostPerKm" ∷ codes
    "ElevCost"
    ∷ codes "TurnCost" ∷ codes "NodeCost" ∷ codes "InitialCost" ∷ codes "WayTags" ∷ codes "NodeTags" ∷ []

-- what stands between two fields: a tabulator, or the end of a text in quotes and the beginning of the next
abbrev pub separator_of : Style → List ℕ
separator_of Lines = tab
separator_of Json = codes "\",\""

-- a text of tags as it is written: in quotes some bytes are escaped
abbrev pub written : Style → List ℕ → List ℕ
written Lines text = text
written Json text = escaped text

-- a height in metres; nothing where it isn't known
abbrev pub height_field : Option ℤ → List ℕ
height_field None = []
height_field (Some height) = height_text height

-- Longitude, Latitude, Elevation, of a place
unfoldable pub place_fields : (Place → Option ℤ) → Place → List (List ℕ)
place_fields height at = signed_decimal at.lon ∷ signed_decimal at.lat ∷ height_field (height at) ∷ []

-- Distance and CostPerKm: how long a link is in metres, and its costfactor in thousandths, rounded down
unfoldable pub length_fields : LinkFacts → List (List ℕ)
length_fields facts = metres_text facts.arrow.len ∷ signed_decimal
    (int_div_euclid facts.costfactor (pos 1000)) ∷ []

-- ElevCost, TurnCost, NodeCost, InitialCost
unfoldable pub part_fields : Parts → List (List ℕ)
part_fields parts = mil6 parts.elevation ∷ mil6 parts.turn ∷ mil6 parts.node ∷ mil6 parts.initial ∷ []

-- WayTags and NodeTags
unfoldable pub tag_fields : (style : Style) (map : MapValue) (table : TagTable) (link : ℕ) (granted : Bool)
    → List (List ℕ)
tag_fields style map table link granted =
    written style (way_field map table link) ∷ written style (node_field map table link granted) ∷ []

-- the fields of a row
unfoldable pub fields_of : Style → Source → Row → List (List ℕ)
fields_of style source row = let facts = source.links.facts row.link in
    place_fields source.height (end_spot source.map row.link)
    ++ (length_fields facts ++
    (part_fields row.parts ++ tag_fields style source.map source.table row.link facts.granted))

-- the text of a row
unfoldable pub row_text : Style → Source → Row → List ℕ
row_text style source row = parted (separator_of style) (fields_of style source row)

-- the header, as a row
unfoldable pub header_text : Style → List ℕ
header_text style = parted (separator_of style) columns
