-- The map of a draft: nodes by ascending id, ways with the tags of their routes, links and turn restrictions
-- (this project's own rule).
use Rattle.std.specs.Prelude.{◌≡◌, ◌↔◌, ℕ, ℤ, pos, ◌<ℤ◌, ◌<◌, ◌^◌, Bool, false, List, [], length, get_or, IsSome, FitsSigned}
use mir.Syntax.{w64}
use Rattle.std.specs.List.{Contains}
use Rattle.geo_int.specs.Place.{Place, place}
use Rattle.map_tables.specs.Draft.{Draft}
use Rattle.map_tables.specs.Kept.{Kept, AreDistinct}
use Rattle.overpass_graph.specs.declared.link.Link.{Link}
use Rattle.overpass_graph.specs.declared.restriction.Restriction.{Restriction}
use Rattle.geo_int.specs.Arrow.{arrow_between}
use Rattle.overpass_graph.specs.Roads.{Roads, IsRoads, twin_of}
use Rattle.overpass_graph.specs.Links.{links_from, link_weight}
use Rattle.overpass_graph.specs.RouteTags.{with_routes}
use Rattle.overpass_graph.specs.Restrictions.{restrictions_of, forbids_any}

-- what a map is: its nodes, its ways with all their tags, its links and its turn restrictions
pub record MapValue : Type 0 where
  pub nodes : List (Kept Place)
  pub ways : List (Kept (List ℤ))
  pub links : List Link
  pub restrictions : List Restriction

-- no link
abbrev pub no_link : Link
no_link = record { from = 0; to = 0; way = 0; segment = 0; back = false }

-- no node
abbrev pub no_node : Kept Place
no_node = record { id = pos 0; content = place (pos 0) (pos 0); tags = [] }

-- no way
abbrev pub no_way : Kept (List ℤ)
no_way = record { id = pos 0; content = []; tags = [] }

-- the node of a number
abbrev pub node_at : List (Kept Place) → ℕ → Kept Place
node_at nodes node = get_or nodes node no_node

-- the way of a number
abbrev pub way_at : List (Kept (List ℤ)) → ℕ → Kept (List ℤ)
way_at ways way = get_or ways way no_way

-- the link of this number
abbrev pub link_of : MapValue → ℕ → Link
link_of map link = get_or map.links link no_link

-- the roads of a map
abbrev pub roads_of : MapValue → Roads
roads_of map = record {
  nodes = length map.nodes;
  links = length map.links;
  from = λ link. (link_of map link).from;
  to = λ link. (link_of map link).to;
}

-- the restrictions of a map forbid the second link after the first
abbrev pub forbids_of : MapValue → ℕ → ℕ → Bool
forbids_of map first second = forbids_any map.restrictions (link_of map first) (link_of map second)

-- the nodes stand by ascending id
abbrev pub AreAscending : List (Kept Place) → Type 0
AreAscending nodes = (i j : ℕ) → i < j → j < length nodes → (node_at nodes i).id <ℤ (node_at nodes j).id

-- the ids of ways have 64 bits
abbrev pub AreIds : List (Kept (List ℤ)) → Type 0
AreIds ways = (way : ℕ) → way < length ways → FitsSigned w64 (way_at ways way).id

-- the way, the segment and the direction of a link are those of no other: links stand in the order of their
-- weights, segments have 32 bits, and the ids of ways differ and have 64
pub record HasNames (map : MapValue) : Type 0 where
  pub rising : (i j : ℕ) → i < j → j < length map.links →
      link_weight (link_of map i) < link_weight (link_of map j)
  pub segment_fits : (link : ℕ) → link < length map.links → (link_of map link).segment < 2 ^ 32
  pub way_ids : AreDistinct map.ways
  pub id_fits : AreIds map.ways

-- what is known of each map: its nodes ascend, its links are roads in pairs of one segment, each of a way of
-- the map and between two nodes that have an arrow, and their names differ
pub record IsMap (map : MapValue) : Type 0 where
  pub ascending : AreAscending map.nodes
  pub roads : IsRoads (roads_of map)
  pub way_in : (link : ℕ) → link < length map.links → (link_of map link).way < length map.ways
  pub arrow : (link : ℕ) → link < length map.links →
      IsSome (arrow_between (node_at map.nodes (link_of map link).from).content
      (node_at map.nodes (link_of map link).to).content)
  pub twin_way : (link : ℕ) → link < length map.links →
      (link_of map (twin_of link)).way ≡ (link_of map link).way
  pub twin_segment : (link : ℕ) → link < length map.links →
      (link_of map (twin_of link)).segment ≡ (link_of map link).segment
  pub names : HasNames map

-- a map is that of a draft: its nodes are those of the draft by ascending id, all else follows from the draft
-- and from the numbers of its nodes
pub record IsMapOf (draft : Draft) (map : MapValue) : Type 0 where
  pub same_nodes : (node : Kept Place) → Contains draft.nodes node ↔ Contains map.nodes node
  pub ascending : AreAscending map.nodes
  pub ways : map.ways ≡ with_routes draft.relations draft.ways
  pub links : map.links ≡ links_from map.nodes 0 draft.ways
  pub restrictions : map.restrictions ≡ restrictions_of map.nodes draft.ways draft.relations
