-- The text of a grid's map is read without a fault, as the grid's elements.
use Rattle.std.proofs.Common.{◌≡◌, ℕ, ◌*◌, ◌/◌, ◌<◌, ◌≤◌, true, List, [], ◌∷◌, map, Some, Ok, refl, sym, ap, ◌∙◌, subst, arith, is_some}
use Rattle.std.specs.Prelude.{codes}
use Rattle.std.specs.List.{range_with_len}
use Rattle.std.proofs.Math.Nat.{lt_of_mul-lt-mul_left, mul-div-le}
use Rattle.std.proofs.lemmas.List.{append-nil}
use Rattle.std.proofs.lemmas.Nat.{mod_below, mul-le}
use Rattle.grid_map.specs.declared.plan.Plan.{Plan}
use Rattle.grid_map.specs.MapText.{overpass_text}
use Rattle.grid_map.specs.Plan.{IsPlan, cells_of, column_of, is_there, row_of}
use Rattle.grid_map.specs.Segments.{numbers_of}
use Rattle.grid_map.proofs.NumberLemmas.{IsNumber, cells_of-within}
use Rattle.grid_map.proofs.StepLemmas.{is_there-within}
use Rattle.item_list.specs.Answer.{and_then}
use Rattle.json_text.specs.declared.mode.Bracket.TheVariants.{Square}
use Rattle.json_text.specs.declared.step.Verdict.TheVariants.{Whole}
use Rattle.json_text.specs.Grammar.{Group, Last, Value, Entry}
use Rattle.json_text.specs.Marks.{Step}
use Rattle.json_text.specs.Reading.{Reads}
use Rattle.map_elements.specs.Entries.{items_of, member, whole_values}
use Rattle.map_elements.specs.Fields.{with_some}
use Rattle.map_elements.specs.Outcome.{elements_list, outcome_of, take_values, verdict_on, whole_elements}
use Rattle.map_elements.specs.Trees.{AreItemsOfTree, AreMembersOfTree, entries_told, others_told, tree_steps}
use Rattle.map_tables.specs.Draft.{empty}
use Rattle.map_tables.specs.declared.limits.Limits.{Limits}
use Rattle.made_routes.proofs.DraftLemmas.{HasRoom, IsCell, IsSegment, grid-draft}
use Rattle.made_routes.proofs.FaultLemmas.{ReadingLaws}
use Rattle.made_routes.proofs.NumberFacts.{AllOf, all-map, numbers-there, range-below}
use Rattle.made_routes.proofs.PrintLemmas.{tree-reads, value_onto}
use Rattle.made_routes.proofs.MapTextLemmas.{grid-text}
use Rattle.made_routes.proofs.Trees.{behind, elements_of, key, listed, map_tree, node_tree, way_tree}
use Rattle.made_routes.proofs.ValidLemmas.{AreValid, map-valid, node-valid, valid-append, valid-each, way-valid}
use Rattle.made_routes.specs.Elements.{draft_of}

-- ---- What is known of cells and segments

-- a grid has a cell
pub cells-some : (plan : Plan) → IsPlan plan → 0 < cells_of plan
cells-some plan lawful = mul-some plan.width plan.height lawful.some_width lawful.some_height
  where
    mul-some : (w h : ℕ) → 1 ≤ w → 1 ≤ h → 0 < w * h
    mul-some w h some more = grind (arith, mul-le 1 1 w h some more)

-- the row of a cell is one of the grid's
row-below : (w h cell : ℕ) → cell < w * h → cell / w < h
row-below w h cell less = lt_of_mul-lt-mul_left w (omega (arith, less, mul-div-le cell w))

-- each cell
cell-known : (plan : Plan) → IsPlan plan → (cell : ℕ) → cell < cells_of plan → IsCell plan cell
cell-known plan lawful cell less =
    let column : column_of plan cell < plan.width = mod_below cell plan.width (omega (arith, lawful.some_width)) in
    let row : row_of plan cell < plan.height = row-below plan.width plan.height cell less in
    record {
      few = omega (arith, less, cells_of-within plan lawful);
      column = omega (arith, column, lawful.width);
      row = omega (arith, row, lawful.height);
    }

-- each segment
segment-known : (plan : Plan) → IsPlan plan → (k : ℕ) → k < 2 * cells_of plan → is_there plan k ≡ true → IsSegment plan k
segment-known plan lawful k less there =
    let within = is_there-within plan k lawful.some_width there in
    let few = cells_of-within plan lawful in
    record { few = omega (arith, less, few); start = omega (arith, within.start, few); end = omega (arith, within.end, few) }

-- all cells
pub cells-known : (plan : Plan) → IsPlan plan → AllOf (IsCell plan) (range_with_len 0 (cells_of plan))
cells-known plan lawful =
    all-map (λ x. x < cells_of plan) (IsCell plan) (cell-known plan lawful) (range_with_len 0 (cells_of plan))
    (range-below 0 (cells_of plan) (cells_of plan) (omega arith))

-- all segments, by their numbers
segments-known : (plan : Plan) → IsPlan plan → AllOf (λ x. is_there plan x ≡ true → IsSegment plan x) (range_with_len 0 (2 * cells_of plan))
segments-known plan lawful =
    all-map (λ x. x < 2 * cells_of plan) (λ x. is_there plan x ≡ true → IsSegment plan x) (segment-known plan lawful)
    (range_with_len 0 (2 * cells_of plan)) (range-below 0 (2 * cells_of plan) (2 * cells_of plan) (omega arith))

-- all segments
pub numbers-known : (plan : Plan) → IsPlan plan → AllOf (IsSegment plan) (numbers_of plan)
numbers-known plan lawful =
    all-map (IsNumber plan) (IsSegment plan) (λ k is. segment-known plan lawful k is.below is.there) (numbers_of plan) (numbers-there plan)

-- ---- The tree

-- the tree of a grid's map is valid
grid-valid : (plan : Plan) → IsPlan plan → AreValid (elements_of plan) 62
grid-valid plan lawful =
    valid-append (map (node_tree plan) (range_with_len 0 (cells_of plan))) (map (way_tree plan) (numbers_of plan)) 62
    (valid-each (node_tree plan) (IsCell plan) 62 (λ cell is. node-valid plan cell 61 (omega (arith, is.few)) is.column is.row)
    (range_with_len 0 (cells_of plan)) (cells-known plan lawful))
    (valid-each (way_tree plan) (IsSegment plan) 62
    (λ k is. way-valid plan k 60 (omega (arith, is.few)) (omega (arith, is.start)) (omega (arith, is.end))) (numbers_of plan)
    (numbers-known plan lawful))

-- the text of a grid's map is read to its end as the steps of its tree
pub grid-reads : ReadingLaws → (plan : Plan) → IsPlan plan → Reads (overpass_text plan) true (tree_steps (map_tree plan)) Whole
grid-reads laws plan lawful =
    subst (λ (t : List ℕ). Reads t true (tree_steps (map_tree plan)) Whole) (sym (grid-text plan (cells-some plan lawful)))
    (subst (λ (s : List Step). Reads (value_onto (map_tree plan) (10 ∷ [])) true s Whole) (append-nil (tree_steps (map_tree plan)))
    (tree-reads laws.found (map_tree plan) (map-valid plan (grid-valid plan lawful))))

-- ---- Its elements

-- the values of items behind another one are theirs
behind-values : (values : List Value) → whole_values (others_told (behind values)) ≡ map tree_steps values
behind-values [] = refl
behind-values (value ∷ values) = ap (λ (vs : List (List Step)). tree_steps value ∷ vs) (behind-values values)

-- the values of items are theirs
listed-values : (values : List Value) → whole_values (entries_told (listed values)) ≡ map tree_steps values
listed-values [] = refl
listed-values (value ∷ values) = ap (λ (vs : List (List Step)). tree_steps value ∷ vs) (behind-values values)

-- the elements of the tree of a grid's map
grid-list : AreMembersOfTree → AreItemsOfTree → (plan : Plan) →
    elements_list (tree_steps (map_tree plan)) ≡ Some (entries_told (listed (elements_of plan)))
unfolding elements_list
grid-list members items plan =
    ap (λ o. with_some o (λ entries. with_some (member (codes "elements") entries) items_of))
    (members (Entry [] (key (codes "elements")) (Group Square (listed (elements_of plan))) (Last [])))
    ∙ items (listed (elements_of plan))

-- the steps of that tree come to the grid's elements
pub grid-outcome : AreMembersOfTree → AreItemsOfTree → (limits : Limits) → HasRoom limits → (plan : Plan) → IsPlan plan →
    outcome_of limits (tree_steps (map_tree plan)) Whole ≡ Ok (draft_of plan)
grid-outcome members items limits room plan lawful =
    ap (λ o. and_then (take_values limits 1 (whole_elements o) empty) (λ draft. verdict_on draft (is_some o) Whole))
    (grid-list members items plan)
    ∙ ap (λ vs. and_then (take_values limits 1 vs empty) (λ draft. verdict_on draft true Whole)) (listed-values (elements_of plan))
    ∙ ap (λ r. and_then r (λ draft. verdict_on draft true Whole))
    (grid-draft plan limits room (cells-known plan lawful) (segments-known plan lawful))
