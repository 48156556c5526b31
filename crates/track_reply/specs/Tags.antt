-- The texts of tags as a profile is asked about them: the first tag is set by the router (this project's own
-- rule).
use Rattle.std.specs.Prelude.{ℕ, Bool, cond, List, []}
use Rattle.lookup_table.specs.First.{TagTable, rows_of}
use Rattle.lookup_table.specs.Numbers.{routed_numbers, tag_numbers, tag_text, has_set}
use Rattle.lookup_table.specs.declared.part.Part.TheVariants.{Way, Node}
use Rattle.map_tables.specs.Kept.{Tag}
use Rattle.overpass_graph.specs.Maps.{MapValue, link_of, node_at, way_at}

-- the text of a way's tags, taken backward or forward
unfoldable pub way_text : TagTable → List Tag → Bool → List ℕ
way_text table tags back = let rows = rows_of table Way in tag_text rows (routed_numbers rows tags back)

-- the text of a node's tags, reached by a way that grants access or doesn't: empty where none is set after
-- the first
unfoldable pub node_text : TagTable → List Tag → Bool → List ℕ
node_text table tags granted = let rows = rows_of table Node in
    cond (has_set (tag_numbers rows tags)) (tag_text rows (routed_numbers rows tags granted)) []

-- the text of the tags of a link's way, in the link's direction
unfoldable pub way_field : MapValue → TagTable → ℕ → List ℕ
way_field map table link = let taken = link_of map link in
    way_text table (way_at map.ways taken.way).tags taken.back

-- the text of the tags of the node at a link's end, whose way grants access or doesn't
unfoldable pub node_field : MapValue → TagTable → ℕ → Bool → List ℕ
node_field map table link granted = node_text table (node_at map.nodes (link_of map link).to).tags granted
