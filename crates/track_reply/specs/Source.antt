-- What the bytes of a reply are told from, beside the track (this project's own rule).
use Rattle.std.specs.Prelude.{ℕ, ℤ, List, Option}
use Rattle.cost_model.specs.Facts.{Links}
use Rattle.cost_model.specs.Prices.{Prices}
use Rattle.geo_int.specs.Place.{Place}
use Rattle.hgt_tiles.specs.Tiles.{height_of}
use Rattle.hgt_tiles.specs.declared.tile_set.Tiles.{Tiles}
use Rattle.lookup_table.specs.First.{TagTable}
use Rattle.overpass_graph.specs.Maps.{MapValue, link_of, node_at}

-- the map, the tag table, the heights of places, the facts of links, the prices of a profile, its name, and
-- the number of the alternative
pub record Source : Type 0 where
  pub map : MapValue
  pub table : TagTable
  pub height : Place → Option ℤ
  pub links : Links
  pub prices : Prices
  pub name : List ℕ
  pub alternative : ℕ

-- what a reply is told from, by the tiles that give heights
abbrev pub source_of : (map : MapValue) (table : TagTable) (tiles : Tiles) (links : Links)
    (prices : Prices) (name : List ℕ) (alternative : ℕ) → Source
source_of map table tiles links prices name alternative = record {
  map = map;
  table = table;
  height = height_of tiles;
  links = links;
  prices = prices;
  name = name;
  alternative = alternative;
}

-- where a node lies
abbrev pub spot_of : MapValue → ℕ → Place
spot_of map node = (node_at map.nodes node).content

-- where a link ends
abbrev pub end_spot : MapValue → ℕ → Place
end_spot map link = spot_of map (link_of map link).to
