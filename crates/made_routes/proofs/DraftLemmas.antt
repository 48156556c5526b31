-- The elements of a grid come to its draft.
use Rattle.std.proofs.Common.{◌≡◌, ℕ, zero, suc, pos, ◌+◌, ◌*◌, ◌<◌, ◌≤◌, Bool, true, false, cond, List, [], ◌∷◌, ◌++◌, length, map, filter, nat_lt, nat_le, ℤ, Option, Some, None, Ok, refl, sym, ap, ◌∙◌, arith}
use Rattle.std.specs.List.{range_with_len}
use Rattle.std.specs.Ordering.{int_eq}
use Rattle.std.proofs.lemmas.Bool.Decides.{nat_tests}
use Rattle.std.proofs.lemmas.Int.{ints}
use Rattle.std.proofs.lemmas.List.{length-map}
use Rattle.std.proofs.lemmas.List.FromFn.{length-map-range_with_len, map-range_with_len_more}
use Rattle.std.proofs.lemmas.List.{map-append}
use Rattle.geo_int.specs.Place.{Place}
use Rattle.grid_map.specs.declared.plan.Plan.{Plan}
use Rattle.grid_map.specs.Plan.{cells_of, column_of, end_of, is_there, row_of, start_of}
use Rattle.grid_map.specs.Segments.{numbers_below, numbers_of}
use Rattle.grid_map.proofs.NumberLemmas.{length-numbers_below, numbers_below-not_there, numbers_below-there}
use Rattle.item_list.specs.Answer.{and_then}
use Rattle.json_text.specs.Grammar.{Value}
use Rattle.json_text.specs.Marks.{Step}
use Rattle.map_elements.specs.Elements.{Element, element_of}
use Rattle.map_elements.specs.Outcome.{take_element, take_values}
use Rattle.map_elements.specs.Trees.{tree_steps}
use Rattle.map_tables.specs.Draft.{Draft, beyond_nodes, beyond_ways, empty, fault_unless, same_nodes, same_place, segments_in}
use Rattle.map_tables.specs.Kept.{Kept, keep, keep_beside, kept_with, unless}
use Rattle.map_tables.specs.declared.error.ElementKind.TheVariants as kind_
use Rattle.map_tables.specs.declared.error.MapCount.TheVariants as count_
use Rattle.map_tables.specs.declared.error.MapError.TheVariants.{DoubleId, TooLarge}
use Rattle.map_tables.specs.declared.limits.Limits.{Limits}
use Rattle.made_routes.proofs.ElementLemmas.{node-element, way-element}
use Rattle.made_routes.proofs.NumberFacts.{AllOf, filter-all, range-below, all-map}
use Rattle.made_routes.proofs.Trees.{elements_of, node_tree, way_tree}
use Rattle.made_routes.specs.Elements.{draft_of, node_of, nodes_of, way_of}

-- ---- One more element

-- another number isn't the next id
other-id : (x a : ℕ) → x < a → int_eq (pos (x + 1)) (pos (a + 1)) ≡ false
other-id x a less = grind (arith, ints, nat_tests)

-- no element of a lower number has the next id
fresh : {C : Type 0} (f : ℕ → Kept C) → ((x : ℕ) → (f x).id ≡ pos (x + 1)) → (a : ℕ) (xs : List ℕ) → AllOf (λ x. x < a) xs →
    kept_with (pos (a + 1)) (map f xs) ≡ None
fresh f ids a [] all = refl
fresh f ids a (x ∷ xs) all =
    ap (λ b. cond b (Some (f x)) (kept_with (pos (a + 1)) (map f xs))) (ap (λ id. int_eq id (pos (a + 1))) (ids x) ∙ other-id x a all.0)
    ∙ fresh f ids a xs all.1

-- an element of a fresh id goes last, where there aren't too many
keep-fresh : {C E : Type 0} (same : C → C → Bool) (double : E) (beyond : Option E) (new : Kept C) (kept : List (Kept C)) →
    kept_with new.id kept ≡ None → beyond ≡ None → keep same double beyond new kept ≡ Ok (kept ++ new ∷ [])
keep-fresh same double beyond new kept none few =
    ap (keep_beside same double beyond new kept) none ∙ ap (λ (o : Option _). unless o (kept ++ new ∷ [])) few

-- a value that is read as an element that is taken
take-one : (limits : Limits) (at : ℕ) (value : List Step) (values : List (List Step)) (element : Element) (draft next : Draft) →
    element_of at value ≡ Ok element → take_element limits element draft ≡ Ok next →
    take_values limits at (value ∷ values) draft ≡ take_values limits (suc at) values next
take-one limits at value values element draft next reads takes =
    ap (λ r. and_then r (λ e. and_then (take_element limits e draft) (λ more. take_values limits (suc at) values more))) reads
    ∙ ap (λ r. and_then r (λ more. take_values limits (suc at) values more)) takes

-- there is room for a grid
pub record HasRoom (limits : Limits) : Type 0 where
  pub nodes : 1000000 ≤ limits.nodes
  pub ways : 2000000 ≤ limits.ways
  pub segments : 2000000 ≤ limits.segments

-- what is known of a cell
pub record IsCell (plan : Plan) (cell : ℕ) : Type 0 where
  pub few : cell < 1000000
  pub column : column_of plan cell < 1000
  pub row : row_of plan cell < 1000

-- what is known of a segment
pub record IsSegment (plan : Plan) (k : ℕ) : Type 0 where
  pub few : k < 2000000
  pub start : start_of k < 1000000
  pub end : end_of plan k < 1000000

module _ (plan : Plan) (limits : Limits) (room : HasRoom limits) where
  -- ---- Cells

  -- the first cells
  nodes_up_to : ℕ → Draft
  nodes_up_to n = record { nodes = map (node_of plan) (range_with_len 0 n); ways = []; relations = [] }

  -- the next cell is taken
  node-taken : (cell : ℕ) → cell < 1000000 →
      take_element limits (Element.Node (node_of plan cell)) (nodes_up_to cell) ≡ Ok (nodes_up_to (cell + 1))
  unfolding nodes_up_to
  node-taken cell few =
      let count : length (map (node_of plan) (range_with_len 0 cell)) ≡ cell = length-map-range_with_len (node_of plan) 0 cell in
      let test : nat_lt (length (map (node_of plan) (range_with_len 0 cell))) limits.nodes ≡ true =
      grind (arith, nat_tests, count, room.nodes) in
      let beyond : beyond_nodes limits (nodes_up_to cell) ≡ None =
      ap (λ b. cond b None (Some (TooLarge count_.Nodes))) test in
      let kept : keep same_place (DoubleId kind_.Node (pos (cell + 1))) (beyond_nodes limits (nodes_up_to cell)) (node_of plan cell)
      (map (node_of plan) (range_with_len 0 cell)) ≡ Ok (map (node_of plan) (range_with_len 0 cell) ++ node_of plan cell ∷ []) =
      keep-fresh same_place (DoubleId kind_.Node (pos (cell + 1))) (beyond_nodes limits (nodes_up_to cell)) (node_of plan cell)
      (map (node_of plan) (range_with_len 0 cell))
      (fresh (node_of plan) (λ x. refl) cell (range_with_len 0 cell) (range-below 0 cell cell (omega arith))) beyond in
      let more : map (node_of plan) (range_with_len 0 cell) ++ node_of plan cell ∷ [] ≡ map (node_of plan) (range_with_len 0 (cell + 1)) =
      sym (map-range_with_len_more (node_of plan) 0 cell cell (omega arith)) in
      ap (λ r. and_then r (λ nodes. Ok (record { nodes = nodes; ways = []; relations = [] })))
      (kept ∙ ap (λ (ns : List (Kept Place)). Ok ns) more)

  -- the next cells are taken, before other values
  nodes-taken : (n cell at : ℕ) (others : List Value) → AllOf (IsCell plan) (range_with_len cell n) →
      take_values limits at (map tree_steps (map (node_tree plan) (range_with_len cell n) ++ others)) (nodes_up_to cell)
      ≡ take_values limits (at + n) (map tree_steps others) (nodes_up_to (cell + n))
  nodes-taken zero cell at others all =
      let same : at ≡ at + 0 = omega arith in
      let here : cell ≡ cell + 0 = omega arith in
      ap (λ p. take_values limits p (map tree_steps others) (nodes_up_to cell)) same
      ∙ ap (λ c. take_values limits (at + 0) (map tree_steps others) (nodes_up_to c)) here
  nodes-taken (suc n) cell at others all =
      let same : suc at + n ≡ at + suc n = omega arith in
      let here : cell + 1 + n ≡ cell + suc n = omega arith in
      take-one limits at (tree_steps (node_tree plan cell))
      (map tree_steps (map (node_tree plan) (range_with_len (cell + 1) n) ++ others)) (Element.Node (node_of plan cell)) (nodes_up_to cell)
      (nodes_up_to (cell + 1))
      (node-element plan cell at (omega (arith, all.0.few)) all.0.column all.0.row) (node-taken cell all.0.few)
      ∙ nodes-taken n (cell + 1) (suc at) others all.1
      ∙ ap (λ p. take_values limits p (map tree_steps others) (nodes_up_to (cell + 1 + n))) same
      ∙ ap (λ c. take_values limits (at + suc n) (map tree_steps others) (nodes_up_to c)) here

  -- ---- Segments

  -- all cells and the segments of the first numbers
  ways_up_to : ℕ → Draft
  ways_up_to k = record { nodes = nodes_of plan; ways = map (way_of plan) (numbers_below plan k); relations = [] }

  -- each way has one segment
  one-each : (xs : List ℕ) → segments_in (map (way_of plan) xs) ≡ length xs
  one-each [] = refl
  one-each (x ∷ xs) = omega (arith, one-each xs)

  -- the segments of the first numbers are below the next
  below-next : (k : ℕ) → AllOf (λ x. x < k) (numbers_below plan k)
  below-next k =
      all-map (λ x. (x < k) × (is_there plan x ≡ true)) (λ x. x < k) (λ x is. is.0) (numbers_below plan k)
      (filter-all (is_there plan) k (range_with_len 0 k) (range-below 0 k k (omega arith)))

  -- the next segment is taken
  way-taken : (k : ℕ) → k < 2000000 → is_there plan k ≡ true →
      take_element limits (Element.Way (way_of plan k)) (ways_up_to k) ≡ Ok (ways_up_to (k + 1))
  unfolding ways_up_to
  way-taken k few there =
      let ways = map (way_of plan) (numbers_below plan k) in
      let short = length-numbers_below plan k in
      let count : length ways ≡ length (numbers_below plan k) = length-map (numbers_below plan k) (way_of plan) in
      let each : segments_in ways ≡ length (numbers_below plan k) = one-each (numbers_below plan k) in
      let test : nat_lt (length ways) limits.ways ≡ true = grind (arith, nat_tests, count, short, room.ways) in
      let fits : nat_le (segments_in ways + 1) limits.segments ≡ true = grind (arith, nat_tests, each, short, room.segments) in
      let beyond : beyond_ways limits (ways_up_to k) (way_of plan k).content ≡ None =
      ap (λ b. cond b (fault_unless (nat_le (segments_in ways + 1) limits.segments) (TooLarge count_.Segments))
      (Some (TooLarge count_.Ways)))
      test
      ∙ ap (λ b. cond b None (Some (TooLarge count_.Segments))) fits in
      let kept : keep same_nodes (DoubleId kind_.Way (pos (k + 1))) (beyond_ways limits (ways_up_to k) (way_of plan k).content)
      (way_of plan k) ways
      ≡ Ok (ways ++ way_of plan k ∷ []) =
      keep-fresh same_nodes (DoubleId kind_.Way (pos (k + 1))) (beyond_ways limits (ways_up_to k) (way_of plan k).content)
      (way_of plan k) ways
      (fresh (way_of plan) (λ x. refl) k (numbers_below plan k) (below-next k)) beyond in
      let more : ways ++ way_of plan k ∷ [] ≡ map (way_of plan) (numbers_below plan (k + 1)) =
      sym (map-append (way_of plan) (numbers_below plan k) (k ∷ [])) ∙ ap (map (way_of plan)) (sym (numbers_below-there plan k there)) in
      ap (λ r. and_then r (λ ws. Ok (record { nodes = nodes_of plan; ways = ws; relations = [] })))
      (kept ∙ ap (λ (ws : List (Kept (List ℤ))). Ok ws) more)

  -- the segments of the next numbers are taken
  ways-taken : (n k at : ℕ) → AllOf (λ x. is_there plan x ≡ true → IsSegment plan x) (range_with_len k n) →
      take_values limits at (map tree_steps (map (way_tree plan) (filter (is_there plan) (range_with_len k n)))) (ways_up_to k)
      ≡ Ok (ways_up_to (k + n))
  unfolding ways_up_to
  ways-taken zero k at all = let here : k ≡ k + 0 = omega arith in ap (λ m. Ok (ways_up_to m)) here
  ways-taken (suc n) k at all =
      by_test (is_there plan k) refl (λ place. ways-taken n (k + 1) place all.1) ∙ ap (λ m. Ok (ways_up_to m)) here
    where
      here : k + 1 + n ≡ k + suc n
      here = omega arith

      rest : List ℕ
      rest = filter (is_there plan) (range_with_len (k + 1) n)

      by_test : (b : Bool) → is_there plan k ≡ b →
          ((place : ℕ) → take_values limits place (map tree_steps (map (way_tree plan) rest)) (ways_up_to (k + 1))
          ≡ Ok (ways_up_to (k + 1 + n))) →
          take_values limits at (map tree_steps (map (way_tree plan) (cond b (k ∷ rest) rest))) (ways_up_to k) ≡ Ok (ways_up_to (k + 1 + n))
      by_test true there later =
          let is = all.0 there in
          take-one limits at (tree_steps (way_tree plan k)) (map tree_steps (map (way_tree plan) rest)) (Element.Way (way_of plan k))
          (ways_up_to k)
          (ways_up_to (k + 1))
          (way-element plan k at (omega (arith, is.few)) (omega (arith, is.start)) (omega (arith, is.end))) (way-taken k is.few there)
          ∙ later (suc at)
      by_test false absent later =
          ap (λ (xs : List ℕ). take_values limits at (map tree_steps (map (way_tree plan) rest))
          (record { nodes = nodes_of plan; ways = map (way_of plan) xs; relations = [] })) (sym (numbers_below-not_there plan k absent))
          ∙ later at

  -- ---- All

  -- the elements of a grid come to its draft
  pub grid-draft : AllOf (IsCell plan) (range_with_len 0 (cells_of plan)) →
      AllOf (λ x. is_there plan x ≡ true → IsSegment plan x) (range_with_len 0 (2 * cells_of plan)) →
      take_values limits 1 (map tree_steps (elements_of plan)) empty ≡ Ok (draft_of plan)
  unfolding nodes_up_to ways_up_to
  grid-draft cells segments =
      let first : 0 + cells_of plan ≡ cells_of plan = omega arith in
      let second : 0 + 2 * cells_of plan ≡ 2 * cells_of plan = omega arith in
      nodes-taken (cells_of plan) 0 1 (map (way_tree plan) (numbers_of plan)) cells
      ∙ ap (λ n. take_values limits (1 + cells_of plan) (map tree_steps (map (way_tree plan) (numbers_of plan))) (nodes_up_to n)) first
      ∙ ways-taken (2 * cells_of plan) 0 (1 + cells_of plan) segments
      ∙ ap (λ k. Ok (ways_up_to k)) second
