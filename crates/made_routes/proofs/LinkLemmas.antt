-- The links of a grid's ways are two for each segment.
use Rattle.std.proofs.Common.{◌≡◌, ℕ, zero, suc, pos, ◌+◌, ◌*◌, ◌<◌, ◌≤◌, Bool, true, false, cond, List, [], ◌∷◌, ◌++◌, map, length, get_or, nat_le, slice_get, Some, None, option_map, is_some, refl, ap, ◌∙◌, arith}
use Rattle.std.specs.List.{range_with_len}
use Rattle.std.specs.Ordering.{int_eq}
use Rattle.std.proofs.lemmas.Bool.Decides.{nat_tests}
use Rattle.std.proofs.lemmas.Int.{ints}
use Rattle.std.proofs.lemmas.List.{append-nil}
use Rattle.geo_int.specs.Arrow.{arrow_between, arrow_of, east_between, length_between, north_between}
use Rattle.grid_map.specs.declared.plan.Plan.{Plan}
use Rattle.grid_map.specs.Lengths.{cell_place, segment_length}
use Rattle.grid_map.specs.Plan.{cells_of, end_of, is_east, is_there, start_of}
use Rattle.grid_map.proofs.LengthLemmas.{segment_length-short}
use Rattle.map_tables.specs.Kept.{ids_of, place_in, place_of_id}
use Rattle.overpass_graph.specs.Links.{both_ways, first_missing, has_arrow, links_between, links_from, links_of_segment, missing_in, missing_or}
use Rattle.overpass_graph.specs.Maps.{no_link}
use Rattle.overpass_graph.specs.declared.link.Link.{Link}
use Rattle.made_routes.proofs.NumberFacts.{AllOf}
use Rattle.made_routes.specs.Elements.{node_of, nodes_of, way_of}
use Rattle.made_routes.specs.Maps.{link_along}

-- ---- Nodes by their ids

-- a number is itself
same-id : (n m : ℕ) → n ≡ m → int_eq (pos (n + 1)) (pos (m + 1)) ≡ true
same-id n m same = grind (arith, ints, nat_tests)

-- a number isn't another
other-id : (n m : ℕ) → n < m → int_eq (pos (n + 1)) (pos (m + 1)) ≡ false
other-id n m less = grind (arith, ints, nat_tests)

-- the node of a cell is found by its id at its place behind the first of a range
cell-from : (plan : Plan) (n a i cell : ℕ) → i < n → a + i ≡ cell →
    place_in (pos (cell + 1)) (ids_of (map (node_of plan) (range_with_len a n))) ≡ Some i
cell-from plan zero a i cell within is = absurd (omega (arith, within))
cell-from plan (suc n) a zero cell within is =
    ap (λ b. cond b (Some 0) (option_map suc (place_in (pos (cell + 1)) (ids_of (map (node_of plan) (range_with_len (a + 1) n))))))
    (same-id a cell (omega (arith, is)))
cell-from plan (suc n) a (suc i) cell within is =
    ap (λ b. cond b (Some 0) (option_map suc (place_in (pos (cell + 1)) (ids_of (map (node_of plan) (range_with_len (a + 1) n))))))
    (other-id a cell (omega (arith, is)))
    ∙ ap (option_map suc) (cell-from plan n (a + 1) i cell (omega (arith, within)) (omega (arith, is)))

-- the node of a cell is found by its id
pub cell-place : (plan : Plan) (cell : ℕ) → cell < cells_of plan → place_of_id (pos (cell + 1)) (nodes_of plan) ≡ Some cell
cell-place plan cell within = cell-from plan (cells_of plan) 0 cell cell within (omega arith)

-- the node at a place behind the first of a range
node-from : (plan : Plan) (n a i cell : ℕ) → i < n → a + i ≡ cell →
    slice_get (map (node_of plan) (range_with_len a n)) i ≡ Some (node_of plan cell)
node-from plan zero a i cell within is = absurd (omega (arith, within))
node-from plan (suc n) a zero cell within is = let same : a ≡ cell = omega (arith, is) in ap (λ c. Some (node_of plan c)) same
node-from plan (suc n) a (suc i) cell within is = node-from plan n (a + 1) i cell (omega (arith, within)) (omega (arith, is))

-- the node of a cell stands at its number
pub node-there : (plan : Plan) (cell : ℕ) → cell < cells_of plan → slice_get (nodes_of plan) cell ≡ Some (node_of plan cell)
node-there plan cell within = node-from plan (cells_of plan) 0 cell cell within (omega arith)

-- ---- Segments

-- what is known of a segment's cells
pub record HasCells (plan : Plan) (k : ℕ) : Type 0 where
  pub start : start_of k < cells_of plan
  pub end : end_of plan k < cells_of plan
  pub onward : start_of k < end_of plan k
  pub short : segment_length plan k ≤ 100000000

-- a segment goes on
end-above : (plan : Plan) (k : ℕ) → 1 ≤ plan.width → start_of k < end_of plan k
unfolding end_of
end-above plan k some = by_test (is_east k)
  where
    by_test : (b : Bool) → start_of k < cond b (start_of k + 1) (start_of k + plan.width)
    by_test true = omega arith
    by_test false = omega (arith, some)

-- what is known of a segment that is there
pub has-cells : (plan : Plan) (k : ℕ) → 1 ≤ plan.width → is_there plan k ≡ true → start_of k < cells_of plan →
    end_of plan k < cells_of plan →
    HasCells plan k
has-cells plan k some there start end =
    record { start = start; end = end; onward = end-above plan k some; short = segment_length-short plan k some there }

-- there is an arrow along a segment
segment-arrow : (plan : Plan) (k : ℕ) → segment_length plan k ≤ 100000000 →
    is_some (arrow_between (cell_place plan (start_of k)) (cell_place plan (end_of plan k))) ≡ true
unfolding arrow_between segment_length
segment-arrow plan k short =
    let test : nat_le (length_between (cell_place plan (start_of k)) (cell_place plan (end_of plan k))) 100000000 ≡ true =
    grind (arith, nat_tests, short) in
    ap (λ b. is_some (cond b (Some (arrow_of (east_between (cell_place plan (start_of k)) (cell_place plan (end_of plan k)))
    (north_between (cell_place plan (start_of k)) (cell_place plan (end_of plan k))))) None)) test

-- the links of a segment
segment-links : (plan : Plan) (way k : ℕ) → HasCells plan k →
    links_of_segment (nodes_of plan) way 0 (pos (start_of k + 1)) (pos (end_of plan k + 1)) ≡ both_ways way 0 (start_of k) (end_of plan k)
unfolding links_of_segment
segment-links plan way k has =
    ap (λ b. cond b [] (links_between (nodes_of plan) way 0 (place_of_id (pos (start_of k + 1)) (nodes_of plan))
    (place_of_id (pos (end_of plan k + 1)) (nodes_of plan)))) (other-id (start_of k) (end_of plan k) has.onward)
    ∙ ap (λ o. links_between (nodes_of plan) way 0 o (place_of_id (pos (end_of plan k + 1)) (nodes_of plan)))
    (cell-place plan (start_of k) has.start)
    ∙ ap (λ o. links_between (nodes_of plan) way 0 (Some (start_of k)) o) (cell-place plan (end_of plan k) has.end)
    ∙ ap (λ o. cond (has_arrow o (slice_get (nodes_of plan) (end_of plan k))) (both_ways way 0 (start_of k) (end_of plan k)) [])
    (node-there plan (start_of k) has.start)
    ∙ ap (λ o. cond (has_arrow (Some (node_of plan (start_of k))) o) (both_ways way 0 (start_of k) (end_of plan k)) [])
    (node-there plan (end_of plan k) has.end)
    ∙ ap (λ b. cond b (both_ways way 0 (start_of k) (end_of plan k)) []) (segment-arrow plan k has.short)

-- the links of segments, of which the first stands at this place
abbrev pub links_of : Plan → ℕ → List ℕ → List Link
links_of plan place [] = []
links_of plan place (k ∷ numbers) = both_ways place 0 (start_of k) (end_of plan k) ++ links_of plan (suc place) numbers

-- the links of a grid's ways are those of its segments
pub ways-links : (plan : Plan) (numbers : List ℕ) (place : ℕ) → AllOf (HasCells plan) numbers →
    links_from (nodes_of plan) place (map (way_of plan) numbers) ≡ links_of plan place numbers
ways-links plan [] place all = refl
ways-links plan (k ∷ numbers) place all =
    ap (λ (ls : List Link). ls ++ links_from (nodes_of plan) (suc place) (map (way_of plan) numbers))
    (append-nil (links_of_segment (nodes_of plan) place 0 (pos (start_of k + 1)) (pos (end_of plan k + 1)))
    ∙ segment-links plan place k all.0)
    ∙ ap (λ (ls : List Link). both_ways place 0 (start_of k) (end_of plan k) ++ ls) (ways-links plan numbers (suc place) all.1)

-- no way of a grid lacks a node
pub none-missing : (plan : Plan) (numbers : List ℕ) → AllOf (HasCells plan) numbers →
    first_missing (nodes_of plan) (map (way_of plan) numbers) ≡ None
none-missing plan [] all = refl
none-missing plan (k ∷ numbers) all =
    ap (λ o. missing_or (pos (k + 1)) (cond (is_some o) (missing_in (nodes_of plan) (pos (end_of plan k + 1) ∷ []))
    (Some (pos (start_of k + 1))))
    (first_missing (nodes_of plan) (map (way_of plan) numbers))) (cell-place plan (start_of k) all.0.start)
    ∙ ap (λ o. missing_or (pos (k + 1)) (cond (is_some o) None (Some (pos (end_of plan k + 1))))
    (first_missing (nodes_of plan) (map (way_of plan) numbers))) (cell-place plan (end_of plan k) all.0.end)
    ∙ none-missing plan numbers all.1

-- ---- Links by their numbers

-- there are two links for each segment
pub count-links : (plan : Plan) (numbers : List ℕ) (place : ℕ) → length (links_of plan place numbers) ≡ 2 * length numbers
count-links plan [] place = refl
count-links plan (k ∷ numbers) place = omega (arith, count-links plan numbers (suc place))

-- the first link of the segment at a place behind the first
pub forth-from : (plan : Plan) (numbers : List ℕ) (first place k : ℕ) → slice_get numbers place ≡ Some k →
    get_or (links_of plan first numbers) (2 * place) no_link ≡ link_along (first + place) (start_of k) (end_of plan k) false
forth-from plan [] first place k at = absurd (cc)
forth-from plan (x ∷ numbers) first zero k at =
    let same : x ≡ k = cc in
    let here : first ≡ first + 0 = omega arith in
    ap (λ n. link_along first (start_of n) (end_of plan n) false) same ∙ ap (λ w. link_along w (start_of k) (end_of plan k) false) here
forth-from plan (x ∷ numbers) first (suc place) k at =
    let double : 2 * suc place ≡ suc (suc (2 * place)) = omega arith in
    let here : suc first + place ≡ first + suc place = omega arith in
    ap (λ n. get_or (links_of plan first (x ∷ numbers)) n no_link) double
    ∙ forth-from plan numbers (suc first) place k at
    ∙ ap (λ w. link_along w (start_of k) (end_of plan k) false) here

-- the second one
pub back-from : (plan : Plan) (numbers : List ℕ) (first place k : ℕ) → slice_get numbers place ≡ Some k →
    get_or (links_of plan first numbers) (2 * place + 1) no_link ≡ link_along (first + place) (end_of plan k) (start_of k) true
back-from plan [] first place k at = absurd (cc)
back-from plan (x ∷ numbers) first zero k at =
    let same : x ≡ k = cc in
    let here : first ≡ first + 0 = omega arith in
    ap (λ n. link_along first (end_of plan n) (start_of n) true) same ∙ ap (λ w. link_along w (end_of plan k) (start_of k) true) here
back-from plan (x ∷ numbers) first (suc place) k at =
    let double : 2 * suc place + 1 ≡ suc (suc (2 * place + 1)) = omega arith in
    let here : suc first + place ≡ first + suc place = omega arith in
    ap (λ n. get_or (links_of plan first (x ∷ numbers)) n no_link) double
    ∙ back-from plan numbers (suc first) place k at
    ∙ ap (λ w. link_along w (end_of plan k) (start_of k) true) here
