-- The text of a grid's map as a tree of JSON, made of the trees of its cells and of its segments.
use Rattle.std.specs.Prelude.{ℕ, pos, ◌+◌, ◌*◌, List, [], ◌∷◌, ◌++◌, map, codes, decimal}
use Rattle.std.specs.List.{range_with_len}
use Rattle.fixed_num.specs.Text.{mil6}
use Rattle.grid_map.specs.declared.plan.Plan.{Plan}
use Rattle.grid_map.specs.MapText.{class_name}
use Rattle.grid_map.specs.Plan.{cells_of, class_of, column_of, end_of, row_of, start_of}
use Rattle.grid_map.specs.Segments.{numbers_of}
use Rattle.json_text.specs.declared.mode.Bracket.TheVariants.{Curly, Square}
use Rattle.json_text.specs.Chars.{Char, Plain}
use Rattle.json_text.specs.Grammar.{Empty, Entries, Entry, Group, Last, Name, Named, Next, NoName, Number, Others, Text, Value}

-- bytes that stand for themselves, as characters
abbrev pub plain : List ℕ → List Char
plain [] = []
plain (b ∷ bytes) = Plain (b ∷ []) ∷ plain bytes

-- the name of a member, with no space
abbrev pub key : List ℕ → Name
key name = Named (plain name) [] []

-- an object of a member and others, with no space
abbrev pub object : List ℕ → Value → Others → Value
object name value others = Group Curly (Entry [] (key name) value others)

-- one more member before others
abbrev pub member : List ℕ → Value → Others → Others
member name value others = Next [] [] (key name) value others

-- the tree of a cell
abbrev pub node_tree : Plan → ℕ → Value
node_tree plan cell =
    object (codes "type") (Text (plain (codes "node")))
    (member (codes "id") (Number (decimal (cell + 1)))
    (member (codes "lat") (Number (mil6 (pos (1000 * row_of plan cell))))
    (member (codes "lon") (Number (mil6 (pos (1000 * column_of plan cell)))) (Last []))))

-- the list of a segment's two nodes
abbrev pub nodes_tree : Plan → ℕ → Value
nodes_tree plan k =
    Group Square (Entry [] NoName (Number (decimal (start_of k + 1)))
    (Next [] [] NoName (Number (decimal (end_of plan k + 1))) (Last [])))

-- the tags of a segment
abbrev pub tags_tree : Plan → ℕ → Value
tags_tree plan k = object (codes "highway") (Text (plain (class_name (class_of plan.seed k)))) (Last [])

-- the tree of a segment
abbrev pub way_tree : Plan → ℕ → Value
way_tree plan k =
    object (codes "type") (Text (plain (codes "way")))
    (member (codes "id") (Number (decimal (k + 1)))
    (member (codes "nodes") (nodes_tree plan k)
    (member (codes "tags") (tags_tree plan k) (Last []))))

-- the elements of a grid: its cells, and its segments
abbrev pub elements_of : Plan → List Value
elements_of plan = map (node_tree plan) (range_with_len 0 (cells_of plan)) ++ map (way_tree plan) (numbers_of plan)

-- items behind another one, each on a line of its own
abbrev pub behind : List Value → Others
behind [] = Last (10 ∷ [])
behind (value ∷ values) = Next [] (10 ∷ []) NoName value (behind values)

-- items, each on a line of its own
abbrev pub listed : List Value → Entries
listed [] = Empty (10 ∷ [])
listed (value ∷ values) = Entry (10 ∷ []) NoName value (behind values)

-- the tree of a grid's map
abbrev pub map_tree : Plan → Value
map_tree plan = object (codes "elements") (Group Square (listed (elements_of plan))) (Last [])
