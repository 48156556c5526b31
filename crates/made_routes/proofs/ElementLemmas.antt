-- The trees of a grid's cells and segments are read as their nodes and ways.
use Rattle.std.proofs.Common.{◌≡◌, ℕ, pos, ◌+◌, ◌*◌, ◌^◌, ◌<◌, Bool, true, false, cond, List, [], ◌∷◌, ℤ, Some, None, Ok, refl, ap, ◌∙◌, arith, nat_le}
use Rattle.std.specs.Prelude.{decimal}
use Rattle.std.proofs.lemmas.Bool.Decides.{nat_tests}
use Rattle.fixed_num.specs.Coordinate.{coordinate_of}
use Rattle.fixed_num.specs.Text.{mil6}
use Rattle.geo_int.specs.Place.{place}
use Rattle.grid_map.specs.declared.plan.Plan.{Plan}
use Rattle.grid_map.specs.MapText.{class_name}
use Rattle.grid_map.specs.Plan.{class_of, column_of, end_of, row_of, start_of}
use Rattle.json_text.specs.Chars.{content_of}
use Rattle.map_elements.specs.Elements.{Element, element_of, node_at}
use Rattle.map_elements.specs.Fields.{whole_of, whole_part, with_some}
use Rattle.map_elements.specs.Trees.{tree_steps}
use Rattle.made_routes.proofs.CoordinateLemmas.{decimal-parts, decimal-value, mil6-read}
use Rattle.made_routes.proofs.Trees.{node_tree, plain, way_tree}
use Rattle.made_routes.specs.Elements.{node_of, way_of}

-- plain characters stand for their bytes
plain-content : (bytes : List ℕ) → content_of None (plain bytes) ≡ bytes
plain-content [] = refl
plain-content (b ∷ bytes) = ap (λ (l : List ℕ). b ∷ l) (plain-content bytes)

-- a choice that passes its test
passed : {A : Type 0} (b : Bool) (x y : A) → b ≡ true → cond b x y ≡ x
passed true x y h = refl
passed false x y h = absurd (cc)

-- the digits of a number are read as the number
whole-read : (n : ℕ) → n < 2 ^ 63 → whole_of (decimal n) ≡ Some (pos n)
unfolding whole_of
whole-read n few =
    let fits : nat_le n 9223372036854775807 ≡ true = grind (arith, nat_tests) in
    ap (λ o. with_some o whole_part) (decimal-parts n (omega (arith, few)))
    ∙ ap (λ m. cond (nat_le m 9223372036854775807) (Some (pos m)) None) (decimal-value n (omega (arith, few)))
    ∙ passed _ _ _ fits

-- two coordinates that are read are those of a node
node-read : (id : ℤ) (lat lon : List ℕ) (north east : ℤ) → coordinate_of (pos 90000000) lat ≡ Ok north →
    coordinate_of (pos 180000000) lon ≡ Ok east →
    node_at id [] lat lon ≡ Ok (Element.Node (record { id = id; content = place east north; tags = [] }))
node-read id lat lon north east first second = rw (first, second) refl

-- the tree of a cell is read as its node
pub node-element : (plan : Plan) (cell at : ℕ) → cell + 1 < 2 ^ 63 → column_of plan cell < 1000 → row_of plan cell < 1000 →
    element_of at (tree_steps (node_tree plan cell)) ≡ Ok (Element.Node (node_of plan cell))
node-element plan cell at few column row =
    let id : whole_of (decimal (cell + 1)) ≡ Some (pos (cell + 1)) = whole-read (cell + 1) few in
    rw id (node-read (pos (cell + 1)) (mil6 (pos (1000 * row_of plan cell))) (mil6 (pos (1000 * column_of plan cell)))
    (pos (1000 * row_of plan cell)) (pos (1000 * column_of plan cell))
    (mil6-read (pos 90000000) (1000 * row_of plan cell) (omega (arith, row)) (omega arith))
    (mil6-read (pos 180000000) (1000 * column_of plan cell) (omega (arith, column)) (omega arith)))

-- the tree of a segment is read as its way
pub way-element : (plan : Plan) (k at : ℕ) → k + 1 < 2 ^ 63 → start_of k + 1 < 2 ^ 63 → end_of plan k + 1 < 2 ^ 63 →
    element_of at (tree_steps (way_tree plan k)) ≡ Ok (Element.Way (way_of plan k))
way-element plan k at few start end =
    let id : whole_of (decimal (k + 1)) ≡ Some (pos (k + 1)) = whole-read (k + 1) few in
    let first : whole_of (decimal (start_of k + 1)) ≡ Some (pos (start_of k + 1)) = whole-read (start_of k + 1) start in
    let second : whole_of (decimal (end_of plan k + 1)) ≡ Some (pos (end_of plan k + 1)) = whole-read (end_of plan k + 1) end in
    let class : content_of None (plain (class_name (class_of plan.seed k))) ≡ class_name (class_of plan.seed k) =
    plain-content (class_name (class_of plan.seed k)) in
    rw (id, first, second, class) refl
