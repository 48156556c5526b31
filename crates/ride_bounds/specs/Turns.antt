-- The turns of a map, between places of an order of its links (this project's own rule).
use Rattle.std.specs.Prelude.{◌≡◌, ◌≢◌, ℕ, ◌<◌, ◌≤◌, ◌⊎◌, List, get_or}
use Rattle.overpass_graph.specs.Roads.{Roads, out_links}
use Rattle.overpass_graph.specs.Walks.{Joins}
use Rattle.link_hierarchy.specs.Arcs.{HasArc, arcs_of}
use Rattle.link_hierarchy.specs.declared.arcs.Arc.{Arc}
use Rattle.link_order.specs.Orders.{Order, link_at}

-- the second link leaves where the first arrives, and doesn't go back to where the first left
pub record LeadsOn (roads : Roads) (first second : ℕ) : Type 0 where
  pub joins : Joins roads first second
  pub ahead : roads.to second ≢ roads.from first

-- the link at the second place leads on from that at the first
pub record IsTurn (roads : Roads) (order : Order) (x y : ℕ) : Type 0 where
  pub first_in : x < roads.links
  pub second_in : y < roads.links
  pub leads : LeadsOn roads (link_at order x) (link_at order y)

-- a list has each turn, at no price, and nothing else
pub record AreTurns (roads : Roads) (order : Order) (turns : List Arc) : Type 0 where
  pub only : (x y price : ℕ) → arcs_of turns x y price → IsTurn roads order x y
  pub all : (x y : ℕ) → IsTurn roads order x y → HasArc turns x y 0

-- ---- While they are collected

-- a number stands among the first so many of a list
pub record StandsBefore (row : List ℕ) (count x : ℕ) : Type 0 where
  pub place : ℕ
  pub before : place < count
  pub is : get_or row place 0 ≡ x

-- a turn was looked at: its first link stands before a place, or there and its second one among the first so many that leave its end
abbrev pub IsPassed : (roads : Roads) (order : Order) (place next x y : ℕ) → Type 0
IsPassed roads order place next x y =
    (x < place) ⊎ ((x ≡ place) × StandsBefore (out_links roads (roads.to (link_at order place))) next (link_at order y))

-- a list has each turn that was looked at, and nothing else
pub record AreTurnsTo (roads : Roads) (order : Order) (place next : ℕ) (turns : List Arc) : Type 0 where
  pub inside : place ≤ roads.links
  pub only : (x y price : ℕ) → arcs_of turns x y price → IsTurn roads order x y
  pub passed : (x y : ℕ) → IsTurn roads order x y → IsPassed roads order place next x y → HasArc turns x y 0
