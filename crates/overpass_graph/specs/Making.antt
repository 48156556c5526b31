-- The parts of a map as they are made one after the other.
use Rattle.std.specs.Prelude.{◌≡◌, ℕ, ℤ, ◌*◌, ◌^◌, ◌<◌, List, length}
use Rattle.geo_int.specs.Place.{Place}
use Rattle.map_tables.specs.Draft.{Draft}
use Rattle.map_tables.specs.Kept.{Kept}
use Rattle.overpass_graph.specs.declared.pairs.Piece.{Piece}
use Rattle.overpass_graph.specs.Links.{links_from}
use Rattle.overpass_graph.specs.Orders.{IsNodeOrder, picked}
use Rattle.overpass_graph.specs.Pairs.{Net, paired, AreEndsBelow}
use Rattle.overpass_graph.specs.Restrictions.{restrictions_of}
use Rattle.overpass_graph.specs.Turns.{TurnTable}

-- a map is made of fitting parts: its nodes are ordered, and its links are those of ways, laid in pairs among
-- the nodes
pub record AreFitting (nodes : List (Kept Place)) (ways laid_ways : List (Kept (List ℤ))) (places numbers :
    List ℕ)
    (net : Net) (ends : List ℕ) (pieces : List Piece) : Type 0 where
  pub order : IsNodeOrder nodes places numbers
  pub few_nodes : length nodes < 2 ^ 32
  pub few_links : length net.links < 2 ^ 32
  pub laid : net.links ≡ links_from (picked nodes places) 0 laid_ways
  pub same_ways : length ways ≡ length laid_ways
  pub paired : net.links ≡ paired ends pieces
  pub even : length ends ≡ 2 * length pieces
  pub below : AreEndsBelow (length nodes) ends

-- these are the links of a draft whose nodes are in this order
pub record AreLinksFor (draft : Draft) (places numbers : List ℕ) (net : Net) : Type 0 where
  pub ends : List ℕ
  pub pieces : List Piece
  pub fitting : AreFitting draft.nodes draft.ways draft.ways places numbers net ends pieces
  pub nodes : net.nodes ≡ length draft.nodes

-- these are the turns of a draft whose nodes are in this order
pub record AreTurnsFor (draft : Draft) (places : List ℕ) (turns : TurnTable) : Type 0 where
  pub nodes : turns.nodes ≡ length draft.nodes
  pub restrictions : turns.restrictions ≡
      restrictions_of (picked draft.nodes places) draft.ways draft.relations
