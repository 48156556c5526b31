-- The map of a grid as a text in the manner of Overpass (this project's own rule).
use Rattle.std.specs.Prelude.{ℕ, suc, zero, pos, ◌+◌, ◌*◌, ◌==◌, cond, List, [], ◌∷◌, ◌++◌, map, drop, codes, decimal}
use Rattle.std.specs.List.{range_with_len, concat}
use Rattle.fixed_num.specs.Text.{mil6}
use Rattle.grid_map.specs.declared.plan.Plan.{Plan}
use Rattle.grid_map.specs.Plan.{cells_of, column_of, row_of, start_of, end_of, class_of}
use Rattle.grid_map.specs.Segments.{numbers_of}

-- the element of a cell: a node with degrees of six decimals, a thousandth of a degree for each row and
-- column
unfoldable pub node_text : Plan → ℕ → List ℕ
node_text plan cell =
    codes "{\"type\":\"node\",\"id\":" ++ (decimal (cell + 1)
    ++ (codes ",\"lat\":" ++ (mil6 (pos (1000 * row_of plan cell))
    ++ (codes ",\"lon\":" ++ (mil6 (pos (1000 * column_of plan cell)) ++ codes "}")))))

-- the name of a class of segments
unfoldable pub class_name : ℕ → List ℕ
class_name class =
    cond (class == 0) (codes "residential")
    (cond (class == 1) (codes "primary") (cond (class == 2) (codes "track") (codes "cycleway")))

-- the element of a segment: a way from its cell to the other
unfoldable pub way_text : Plan → ℕ → List ℕ
way_text plan k =
    codes "{\"type\":\"way\",\"id\":" ++ (decimal (k + 1)
    ++ (codes ",\"nodes\":[" ++ (decimal (start_of k + 1)
    ++ (codes "," ++ (decimal (end_of plan k + 1)
    ++ (codes "],\"tags\":{\"highway\":\"" ++ (class_name (class_of plan.seed k) ++ codes "\"}}")))))))

-- what stands before the element of a cell: before the first the first line, before each other the end of a
-- line
unfoldable pub front_of : ℕ → List ℕ
front_of zero = codes "{\"elements\":[\n"
front_of (suc cell) = codes ",\n"

-- the element of a cell with what stands before it
unfoldable pub node_part : Plan → ℕ → List ℕ
node_part plan cell = front_of cell ++ node_text plan cell

-- the element of a segment behind the end of the line before it
unfoldable pub way_part : Plan → ℕ → List ℕ
way_part plan k = codes ",\n" ++ way_text plan k

-- the end of the last element's line, and the last line
unfoldable pub last_part : List ℕ
last_part = codes "\n]}\n"

-- the parts of the text: the elements of the cells, of the segments in the order of their numbers, and the
-- end
abbrev pub parts_of : Plan → List (List ℕ)
parts_of plan =
    map (node_part plan) (range_with_len 0 (cells_of plan))
    ++ (map (way_part plan) (numbers_of plan) ++ last_part ∷ [])

-- the text from a part on
unfoldable pub text_from : Plan → ℕ → List ℕ
text_from plan part = concat (drop part (parts_of plan))

-- the whole text
abbrev pub overpass_text : Plan → List ℕ
overpass_text plan = concat (parts_of plan)
