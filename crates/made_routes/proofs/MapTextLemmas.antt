-- The text of a grid's map is the print of its tree.
use Rattle.std.proofs.Common.{◌≡◌, ℕ, zero, suc, pos, ◌+◌, ◌*◌, ◌<◌, List, [], ◌∷◌, ◌++◌, map, append_assoc, refl, sym, ap, ◌∙◌, arith, add-one}
use Rattle.std.specs.Prelude.{codes, decimal}
use Rattle.std.specs.List.{concat, range_with_len}
use Rattle.fixed_num.specs.Text.{mil6}
use Rattle.grid_map.specs.declared.plan.Plan.{Plan}
use Rattle.grid_map.specs.MapText.{class_name, front_of, last_part, node_part, node_text, overpass_text, way_part, way_text}
use Rattle.grid_map.specs.Plan.{cells_of, class_of, column_of, end_of, row_of, start_of}
use Rattle.grid_map.specs.Segments.{numbers_of}
use Rattle.json_text.specs.declared.mode.Bracket.TheVariants.{Square}
use Rattle.json_text.specs.Grammar.{Value}
use Rattle.made_routes.proofs.PrintLemmas.{chars_onto, entries_onto, others_onto, value_onto}
use Rattle.made_routes.proofs.Trees.{behind, listed, map_tree, node_tree, plain, way_tree}

-- plain characters are spelled by their bytes
plain-onto : (bytes more : List ℕ) → chars_onto (plain bytes) more ≡ bytes ++ more
plain-onto [] more = refl
plain-onto (b ∷ bytes) more = ap (λ l. b ∷ l) (plain-onto bytes more)

-- ---- Texts put together

-- three parts between others, before more
three : (a b c d p q r more : List ℕ) →
    (a ++ (p ++ (b ++ (q ++ (c ++ (r ++ d)))))) ++ more ≡ a ++ (p ++ (b ++ (q ++ (c ++ (r ++ (d ++ more))))))
three a b c d p q r more =
    append_assoc a (p ++ (b ++ (q ++ (c ++ (r ++ d))))) more
    ∙ ap (λ l. a ++ l) (append_assoc p (b ++ (q ++ (c ++ (r ++ d)))) more
    ∙ ap (λ l. p ++ l) (append_assoc b (q ++ (c ++ (r ++ d))) more
    ∙ ap (λ l. b ++ l) (append_assoc q (c ++ (r ++ d)) more
    ∙ ap (λ l. q ++ l) (append_assoc c (r ++ d) more ∙ ap (λ l. c ++ l) (append_assoc r d more)))))

-- four parts between others, before more
four : (a b c d e p q r s more : List ℕ) →
    (a ++ (p ++ (b ++ (q ++ (c ++ (r ++ (d ++ (s ++ e)))))))) ++ more ≡
    a ++ (p ++ (b ++ (q ++ (c ++ (r ++ (d ++ (s ++ (e ++ more))))))))
four a b c d e p q r s more =
    append_assoc a (p ++ (b ++ (q ++ (c ++ (r ++ (d ++ (s ++ e))))))) more
    ∙ ap (λ l. a ++ l) (append_assoc p (b ++ (q ++ (c ++ (r ++ (d ++ (s ++ e)))))) more
    ∙ ap (λ l. p ++ l) (three b c d e q r s more))

-- ---- Elements

-- the tree of a cell is its element
node-text : (plan : Plan) (cell : ℕ) (more : List ℕ) → node_text plan cell ++ more ≡ value_onto (node_tree plan cell) more
unfolding node_text
node-text plan cell more =
    three (codes "{\"type\":\"node\",\"id\":") (codes ",\"lat\":") (codes ",\"lon\":") (codes "}") (decimal (cell + 1))
    (mil6 (pos (1000 * row_of plan cell))) (mil6 (pos (1000 * column_of plan cell))) more

-- the tree of a segment is its element
way-text : (plan : Plan) (k : ℕ) (more : List ℕ) → way_text plan k ++ more ≡ value_onto (way_tree plan k) more
unfolding way_text
way-text plan k more =
    four (codes "{\"type\":\"way\",\"id\":") (codes ",\"nodes\":[") (codes ",") (codes "],\"tags\":{\"highway\":\"") (codes "\"}}")
    (decimal (k + 1)) (decimal (start_of k + 1)) (decimal (end_of plan k + 1)) (class_name (class_of plan.seed k)) more
    ∙ ap (λ l. codes "{\"type\":\"way\",\"id\":" ++ (decimal (k + 1) ++ (codes ",\"nodes\":[" ++ (decimal (start_of k + 1) ++
    (codes "," ++ (decimal (end_of plan k + 1) ++ (codes "],\"tags\":{\"highway\":\"" ++ l)))))))
    (sym (plain-onto (class_name (class_of plan.seed k)) (codes "\"}}" ++ more)))

-- ---- Parts

-- the part of a cell behind the first
node-behind : (plan : Plan) (cell : ℕ) (more : List ℕ) →
    node_part plan (cell + 1) ++ more ≡ 44 ∷ 10 ∷ value_onto (node_tree plan (cell + 1)) more
unfolding node_part front_of
node-behind plan cell more =
    ap (λ n. (front_of n ++ node_text plan (cell + 1)) ++ more) (add-one cell)
    ∙ ap (λ l. 44 ∷ 10 ∷ l) (node-text plan (cell + 1) more)

-- the part of a segment
way-behind : (plan : Plan) (k : ℕ) (more : List ℕ) → way_part plan k ++ more ≡ 44 ∷ 10 ∷ value_onto (way_tree plan k) more
unfolding way_part
way-behind plan k more = ap (λ l. 44 ∷ 10 ∷ l) (way-text plan k more)

-- the parts of cells behind the first, before others
nodes-behind : (plan : Plan) (cell n : ℕ) (parts : List (List ℕ)) (values : List Value) (more : List ℕ) →
    concat parts ≡ others_onto (behind values) Square more →
    concat (map (node_part plan) (range_with_len (cell + 1) n) ++ parts)
    ≡ others_onto (behind (map (node_tree plan) (range_with_len (cell + 1) n) ++ values)) Square more
nodes-behind plan cell zero parts values more later = later
nodes-behind plan cell (suc n) parts values more later =
    node-behind plan cell (concat (map (node_part plan) (range_with_len (cell + 1 + 1) n) ++ parts))
    ∙ ap (λ l. 44 ∷ 10 ∷ value_onto (node_tree plan (cell + 1)) l) (nodes-behind plan (cell + 1) n parts values more later)

-- the parts of segments, before the end
ways-behind : (plan : Plan) (numbers : List ℕ) →
    concat (map (way_part plan) numbers ++ last_part ∷ []) ≡ others_onto (behind (map (way_tree plan) numbers)) Square (codes "}\n")
unfolding last_part
ways-behind plan [] = refl
ways-behind plan (k ∷ numbers) =
    way-behind plan k (concat (map (way_part plan) numbers ++ last_part ∷ []))
    ∙ ap (λ l. 44 ∷ 10 ∷ value_onto (way_tree plan k) l) (ways-behind plan numbers)

-- all parts, where there is a cell
parts-text : (plan : Plan) (n : ℕ) →
    concat (map (node_part plan) (range_with_len 0 (suc n)) ++ (map (way_part plan) (numbers_of plan) ++ last_part ∷ []))
    ≡ codes "{\"elements\":[" ++ entries_onto
    (listed (map (node_tree plan) (range_with_len 0 (suc n)) ++ map (way_tree plan) (numbers_of plan)))
    Square (codes "}\n")
unfolding node_part front_of
parts-text plan n =
    ap (λ l. codes "{\"elements\":[\n" ++ l) (node-text plan 0
    (concat (map (node_part plan) (range_with_len (0 + 1) n) ++ (map (way_part plan) (numbers_of plan) ++ last_part ∷ [])))
    ∙ ap (λ l. value_onto (node_tree plan 0) l) (nodes-behind plan 0 n (map (way_part plan) (numbers_of plan) ++ last_part ∷ [])
    (map (way_tree plan) (numbers_of plan)) (codes "}\n") (ways-behind plan (numbers_of plan))))

-- the text of a grid's map is the print of its tree, with the end of a line behind it
pub grid-text : (plan : Plan) → 0 < cells_of plan → overpass_text plan ≡ value_onto (map_tree plan) (10 ∷ [])
grid-text plan some = by_count (cells_of plan) some
  where
    by_count : (n : ℕ) → 0 < n →
        concat (map (node_part plan) (range_with_len 0 n) ++ (map (way_part plan) (numbers_of plan) ++ last_part ∷ []))
        ≡ codes "{\"elements\":[" ++ entries_onto
        (listed (map (node_tree plan) (range_with_len 0 n) ++ map (way_tree plan) (numbers_of plan)))
        Square (codes "}\n")
    by_count zero some = absurd (omega arith)
    by_count (suc n) some = parts-text plan n
