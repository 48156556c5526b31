-- How far binding is, and what it may end with (this project's own rule).
use Rattle.std.specs.Prelude.{◌≡◌, ◌⊎◌, ◌<◌, ◌≤◌, ◌+◌, ◌-◌, ◌*◌, ℕ, ℤ, List, length, Some, IfOk, Result, MatchResult}
use Rattle.context_check.specs.Checked.{Subject}
use Rattle.hgt_tiles.specs.declared.tile_set.Tiles.{Tiles}
use Rattle.lookup_table.specs.First.{TagTable}
use Rattle.overpass_graph.specs.Maps.{MapValue}
use Rattle.profile_code.specs.Flat.{Flat}
use Rattle.profile_code.specs.Scratch.{HoldsGlobals}
use Rattle.way_class.specs.Bound.{AreHeights, AreNodesBound, AreRows, AreWaysBound, Columns}
use Rattle.way_class.specs.Facts.{Binding}
use Rattle.way_class.specs.Links.{links_of}
use Rattle.way_class.specs.Lows.{AreLows}
use Rattle.way_class.specs.Outcome.{IsLinked, links_refusal}
use Rattle.way_class.specs.Parts.{HasTags, Suits}
use Rattle.way_class.specs.Rows.{AreBoundedRows}
use Rattle.way_class.specs.Spending.{Progress, Spends, classes_at, weight_of}
use Rattle.way_class.specs.declared.binder.Binder.{Binder}
use Rattle.way_class.specs.declared.bound.Bound.{Bound}
use Rattle.way_class.specs.declared.error.BindError.{BindError}
use Rattle.way_class.specs.declared.error.BindError.TheVariants.{NoMemory}
use Rattle.way_class.specs.declared.nodes.Nodes.{Nodes}
use Rattle.way_class.specs.declared.ways.Ways.{Ways}

-- how far the ways are
abbrev pub ways_at : (weight most : ℕ) → Ways → Progress
ways_at weight most ways = classes_at weight most (length ways.numbers.items) (length ways.kept.items.items)

-- how far the nodes are
abbrev pub nodes_at : (weight most : ℕ) → Nodes → Progress
nodes_at weight most nodes = classes_at weight most (length nodes.numbers.items) (length nodes.kept.items.items)

-- the numbers of the classes of ways and nodes, and the heights
abbrev pub columns_of : Binder → Columns
columns_of b = record { ways = b.ways.numbers.items; nodes = b.nodes.numbers.items; heights = b.heights.items }

-- all ways and nodes are there
pub record HasClasses (map : MapValue) (b : Binder) : Type 0 where
  pub ways : length b.ways.numbers.items ≡ length map.ways
  pub nodes : length b.nodes.numbers.items ≡ length map.nodes

-- all heights are there too, so all that rows are made of
pub record HasColumns (map : MapValue) (b : Binder) : Type 0 where
  pub classes : HasClasses map b
  pub heights : length b.heights.items ≡ length map.nodes

-- all rows and low prices are there too
pub record IsWhole (map : MapValue) (b : Binder) : Type 0 where
  pub columns : HasColumns map b
  pub rows : length b.rows ≡ length map.links
  pub lows : length b.lows.items ≡ length map.links

-- no stage has more than the map has, and rows and low prices are there only behind the stages that they need
pub record IsWithin (map : MapValue) (b : Binder) : Type 0 where
  pub ways : length b.ways.numbers.items ≤ length map.ways
  pub nodes : length b.nodes.numbers.items ≤ length map.nodes
  pub heights : length b.heights.items ≤ length map.nodes
  pub rows : length b.rows ≤ length map.links
  pub lows : length b.lows.items ≤ length b.rows
  pub rows_wait : 0 < length b.rows → HasColumns map b
  pub lows_wait : 0 < length b.lows.items → length b.rows ≡ length map.links

-- what is there of heights, rows and low prices is right
pub record AreParts (map : MapValue) (tiles : Tiles) (b : Binder) : Type 0 where
  pub heights : AreHeights tiles map (length b.heights.items) b.heights.items
  pub rows : AreRows map (columns_of b) (length b.rows) b.rows
  pub bounded : AreBoundedRows b.rows
  pub lows : AreLows b.ways.kept.items.items b.nodes.kept.items.items b.rows (length b.lows.items) b.lows.items

-- a map is being bound by this code and this table
pub record IsUnderWay (flat : Flat) (table : TagTable) (map : MapValue) (tiles : Tiles) (b : Binder) : Type 0 where
  pub fits : HasTags flat table
  pub held : HoldsGlobals flat b.scratch
  pub weight : b.weight ≡ weight_of flat
  pub within : IsWithin map b
  pub parts : AreParts map tiles b

-- the classes and the numbers that are there are right for a profile
pub record IsBoundSoFar (subject : Subject) (map : MapValue) (b : Binder) : Type 0 where
  pub ways : AreWaysBound subject map (length b.ways.numbers.items) b.ways
  pub nodes : AreNodesBound subject map (length b.nodes.numbers.items) b.nodes

-- how much was spent so far
abbrev pub spent_of : Binder → ℕ
spent_of b = (ways_at b.weight 0 b.ways).spent + (nodes_at b.weight 0 b.nodes).spent + length b.heights.items
    + length b.rows + length b.lows.items

-- how much will be spent at most
abbrev pub work_left : MapValue → Binder → ℕ
work_left map b = (ways_at b.weight (length map.ways) b.ways).rest + (nodes_at b.weight (length map.nodes) b.nodes).rest
    + (length map.nodes - length b.heights.items) + (length map.links - length b.rows)
    + (length map.links - length b.lows.items)

-- how much binding a map takes at most, whatever the code: each way and node counts as an evaluation of the longest
abbrev pub most_work : MapValue → ℕ
most_work map = 1000002 * (length map.ways + length map.nodes) + length map.nodes + length map.links + length map.links

-- the code's values and the classes stay
pub record KeepsClasses (before after : Binder) : Type 0 where
  pub scratch : after.scratch ≡ before.scratch
  pub ways : after.ways ≡ before.ways
  pub nodes : after.nodes ≡ before.nodes

-- binding went on, and left so much of a budget
pub record WorksOn (map : MapValue) (budget left : ℕ) (before after : Binder) : Type 0 where
  pub spends : Spends before.weight budget left (spent_of before) (spent_of after)
  pub less : work_left map after + spent_of after ≤ work_left map before + spent_of before
  pub globals : after.globals ≡ before.globals
  pub weight : after.weight ≡ before.weight

-- a map is bound after the global section with these values: all links have their facts, or this is the first
-- refusal, or memory ran out
abbrev pub EndsLinked : Binding → List ℤ → Result Bound BindError → Type 0
EndsLinked binding globals end =
    MatchResult end (IsLinked binding globals)
    (λ e. (e ≡ NoMemory) ⊎ (links_refusal binding.subject binding.map ≡ Some e))

-- binding may end with this: with what it comes to for each profile of this code and this table for which what is
-- bound so far is right; and with facts for the links of the map alone
pub record MayEnd (flat : Flat) (table : TagTable) (map : MapValue) (tiles : Tiles) (b : Binder)
    (end : Result Bound BindError) : Type 0 where
  pub comes_to :
      (subject : Subject) → Suits flat table subject → IsBoundSoFar subject map b →
      EndsLinked (record { subject = subject; map = map; tiles = tiles }) b.globals end
  pub count : IfOk end (λ bound. (links_of bound).count ≡ length map.links)
