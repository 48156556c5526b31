-- What a map is made of.
use Rattle.std.specs.Prelude.{◌≡◌, ℕ, ℤ, List, length}
use Rattle.geo_int.specs.Place.{Place}
use Rattle.map_tables.specs.Kept.{Kept, AreDistinct}
use Rattle.overpass_graph.specs.Maps.{MapValue, IsMap}
use Rattle.overpass_graph.specs.Orders.{IsNodeOrder, picked}
use Rattle.overpass_graph.specs.Pairs.{Net}
use Rattle.overpass_graph.specs.Turns.{TurnTable}

-- the map of these nodes in the order of the text and their places by ascending id, these ways, links and
-- restrictions
abbrev pub map_value : (nodes : List (Kept Place)) (ways : List (Kept (List ℤ))) (places : List ℕ)
    (net : Net) (turns : TurnTable) → MapValue
map_value nodes ways places net turns = record {
  nodes = picked nodes places;
  ways = ways;
  links = net.links;
  restrictions = turns.restrictions;
}

-- the parts of a map fit
pub record IsMade (nodes : List (Kept Place)) (ways : List (Kept (List ℤ))) (places numbers : List ℕ) (net :
    Net) (turns : TurnTable) : Type 0 where
  pub distinct : AreDistinct nodes
  pub order : IsNodeOrder nodes places numbers
  pub net_nodes : net.nodes ≡ length nodes
  pub turn_nodes : turns.nodes ≡ length nodes
  pub lawful : IsMap (map_value nodes ways places net turns)
