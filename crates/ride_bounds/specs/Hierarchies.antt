-- The hierarchy of a map's links (this project's own rule).
use Rattle.std.specs.Prelude.{◌≡◌, ◌≤◌, length}
use Rattle.item_list.specs.Pages.{numbers_of}
use Rattle.overpass_graph.specs.Roads.{Roads}
use Rattle.link_hierarchy.specs.Arcs.{Covers}
use Rattle.link_hierarchy.specs.Eliminations.{IsElimination}
use Rattle.link_hierarchy.specs.Rows.{AreRows}
use Rattle.ride_bounds.specs.Turns.{AreTurns, AreTurnsTo}
use Rattle.ride_bounds.specs.declared.hierarchy.MapHierarchy.{MapHierarchy}
use Rattle.ride_bounds.specs.declared.collecting.Collecting.{Collecting}
use Rattle.ride_bounds.specs.declared.holding.Holding.{Holding}
use Rattle.ride_bounds.specs.declared.eliminating.Eliminating.{Eliminating}
use Rattle.ride_bounds.specs.declared.map_elimination.MapElimination.{MapElimination}
use Rattle.ride_bounds.specs.declared.map_elimination.MapElimination.TheVariants as stage

-- a hierarchy over the places of the links of a map, with an edge for each turn
pub record IsMapHierarchy (roads : Roads) (hierarchy : MapHierarchy) : Type 0 where
  pub counted : length hierarchy.order.links ≡ roads.links
  pub turns : AreTurns roads hierarchy.order hierarchy.turns.items
  pub covers : Covers hierarchy.topology hierarchy.turns.items
  pub nodes : hierarchy.topology.nodes ≡ roads.links

-- ---- While it is made

-- the turns up to a place were collected
pub record IsCollecting (roads : Roads) (it : Collecting) : Type 0 where
  pub counted : length it.order.links ≡ roads.links
  pub turns : AreTurnsTo roads it.order it.place it.next it.turns.items

-- the rows of a hierarchy hold the first turns
pub record IsHolding (roads : Roads) (it : Holding) : Type 0 where
  pub counted : length it.order.links ≡ roads.links
  pub turns : AreTurns roads it.order it.turns.items
  pub rows : AreRows it.rows.nodes (numbers_of it.rows.outs.items) (numbers_of it.rows.ins.items) it.turns.items it.rows.taken 0
  pub nodes : it.rows.nodes ≡ roads.links
  pub within : it.rows.taken ≤ length it.turns.items

-- the first links are eliminated
pub record IsEliminating (roads : Roads) (it : Eliminating) : Type 0 where
  pub counted : length it.order.links ≡ roads.links
  pub turns : AreTurns roads it.order it.turns.items
  pub made : IsElimination it.turns.items it.made
  pub nodes : it.made.rows.nodes ≡ roads.links

-- how far the hierarchy of a map is
abbrev pub IsMapElimination : Roads → MapElimination → Type 0
IsMapElimination roads (stage.Collecting it) = IsCollecting roads it
IsMapElimination roads (stage.Holding it) = IsHolding roads it
IsMapElimination roads (stage.Eliminating it) = IsEliminating roads it
