-- The elements of the text of a grid's map (this project's own rule).
use Rattle.std.specs.Prelude.{ℕ, ℤ, pos, ◌+◌, List, [], ◌∷◌, map, codes}
use Rattle.std.specs.List.{range_with_len}
use Rattle.geo_int.specs.Place.{Place}
use Rattle.grid_map.specs.Lengths.{cell_place}
use Rattle.grid_map.specs.MapText.{class_name}
use Rattle.grid_map.specs.Plan.{cells_of, class_of, end_of, start_of}
use Rattle.grid_map.specs.Segments.{numbers_of}
use Rattle.grid_map.specs.declared.plan.Plan.{Plan}
use Rattle.map_tables.specs.Draft.{Draft}
use Rattle.map_tables.specs.Kept.{Kept}

-- the node of a cell, whose id is the cell's number and one
abbrev pub node_of : Plan → ℕ → Kept Place
node_of plan cell = record { id = pos (cell + 1); content = cell_place plan cell; tags = [] }

-- the way of a segment, from its cell to the other, whose id is the segment's number and one
abbrev pub way_of : Plan → ℕ → Kept (List ℤ)
way_of plan k = record {
  id = pos (k + 1);
  content = pos (start_of k + 1) ∷ pos (end_of plan k + 1) ∷ [];
  tags = (codes "highway", class_name (class_of plan.seed k)) ∷ [];
}

-- the nodes of all cells
abbrev pub nodes_of : Plan → List (Kept Place)
nodes_of plan = map (node_of plan) (range_with_len 0 (cells_of plan))

-- the ways of all segments, in the order of their numbers
abbrev pub ways_of : Plan → List (Kept (List ℤ))
ways_of plan = map (way_of plan) (numbers_of plan)

-- the elements of a grid: no relation is among them
abbrev pub draft_of : Plan → Draft
draft_of plan = record { nodes = nodes_of plan; ways = ways_of plan; relations = [] }
