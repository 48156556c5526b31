-- The text of a grid's map is shorter than what a builder takes.
use Rattle.std.proofs.Common.{◌≡◌, ℕ, zero, suc, pos, ◌+◌, ◌*◌, ◌-◌, ◌/◌, ◌%◌, ◌<◌, ◌≤◌, ◌^◌, inl, inr, List, [], ◌∷◌, ◌++◌, length, get_or, true, refl, sym, ap, subst, arith, length-append, div-le_self, Bool, false, cond}
use Rattle.std.specs.List.{concat}
use Rattle.std.specs.Prelude.{codes, decimal, ◌==◌}
use Rattle.std.specs.Int.{is_negative}
use Rattle.std.proofs.Math.Nat.{mod-le}
use Rattle.fixed_num.specs.Decimal.{sign_text}
use Rattle.std.proofs.lemmas.Bool.{cases_lt}
use Rattle.std.proofs.lemmas.Fmt.{length-decimal-le}
use Rattle.std.proofs.lemmas.List.{length-map}
use Rattle.fixed_num.specs.Text.{last_digits, mil6}
use Rattle.grid_map.proofs.ListLemmas.{segments_of-at}
use Rattle.grid_map.proofs.NumberLemmas.{cells_of-within, length-numbers_below, numbers_of-within}
use Rattle.grid_map.proofs.PartLemmas.{length-parts_of, part-last, part-node, part-way}
use Rattle.grid_map.proofs.StepLemmas.{is_there-within}
use Rattle.grid_map.specs.MapText.{class_name, front_of, last_part, node_part, node_text, overpass_text, parts_of, way_part, way_text}
use Rattle.grid_map.specs.Plan.{IsPlan, cells_of, class_of, column_of, end_of, row_of, start_of}
use Rattle.grid_map.specs.Segments.{numbers_of, segment_of, segments_of}
use Rattle.grid_map.specs.declared.plan.Plan.{Plan}
use Rattle.grid_map.specs.declared.segment.GridSegment.{GridSegment}
use Rattle.item_list.proofs.ListLemmas.{slice_get-there}

-- ---- Lists that are put together

-- a text before another, in a room
text : (a b : List ℕ) (most rest room : ℕ) → length a ≤ most → length b ≤ rest → rest + most ≤ room → length (a ++ b) ≤ room
text a b most rest room first second more = omega (arith, first, second, more, length-append a b)

-- lists joined, none of which is longer than 200
concat-short : (xs : List (List ℕ)) → ((i : ℕ) → i < length xs → length (get_or xs i []) ≤ 200) → length (concat xs) ≤ 200 * length xs
concat-short [] short = omega arith
concat-short (x ∷ xs) short =
    omega (arith, length-append x (concat xs), short 0 (omega arith), concat-short xs (λ i below. short (suc i) (omega (arith, below))))

-- ---- The parts

-- a number of at most seven digits
number-short : (n : ℕ) → n < 10000000 → length (decimal n) ≤ 7
number-short n few = length-decimal-le 7 n (omega arith) (omega (arith, few)) (omega (arith, few))

-- a point and six digits
digits-short : (n : ℕ) → length (46 ∷ last_digits 6 n) ≡ 7
digits-short n = refl

-- a sign
sign-short : (b : Bool) → length (sign_text b) ≤ 1
sign-short true = omega arith
sign-short false = omega arith

-- degrees of a grid
degrees-short : (n : ℕ) → n < 1000000000 → length (mil6 (pos n)) ≤ 20
unfolding mil6
degrees-short n few =
    let whole : length (decimal (n / 1000000)) ≤ 7 = number-short (n / 1000000) (omega (arith, few)) in
    text (sign_text (is_negative (pos n))) (decimal (n / 1000000) ++ 46 ∷ last_digits 6 (n % 1000000)) 1 19 20
    (sign-short (is_negative (pos n)))
    (text (decimal (n / 1000000)) (46 ∷ last_digits 6 (n % 1000000)) 7 7 19 whole (omega (arith, digits-short (n % 1000000))) (omega arith))
    (omega arith)

-- what stands before a cell
front-short : (cell : ℕ) → length (front_of cell) ≤ 14
unfolding front_of
front-short zero = omega arith
front-short (suc cell) = omega arith

-- a choice of two short names
choice-short : (b : Bool) (x y : List ℕ) → length x ≤ 11 → length y ≤ 11 → length (cond b x y) ≤ 11
choice-short true x y first second = first
choice-short false x y first second = second

-- the name of a class
class-short : (class : ℕ) → length (class_name class) ≤ 11
unfolding class_name
class-short class =
    choice-short (class == 0) (codes "residential")
    (cond (class == 1) (codes "primary") (cond (class == 2) (codes "track") (codes "cycleway"))) (omega arith)
    (choice-short (class == 1) (codes "primary") (cond (class == 2) (codes "track") (codes "cycleway")) (omega arith)
    (choice-short (class == 2) (codes "track") (codes "cycleway") (omega arith) (omega arith)))

-- the element of a cell with what stands before it
node-short : (plan : Plan) (cell : ℕ) → cell < 1000000 → length (node_part plan cell) ≤ 200
unfolding node_part node_text
node-short plan cell few =
    let all =
    text (front_of cell) (codes "{\"type\":\"node\",\"id\":" ++
    (decimal (cell + 1) ++ (codes ",\"lat\":" ++
    (mil6 (pos (1000 * row_of plan cell)) ++ (codes ",\"lon\":" ++ (mil6 (pos (1000 * column_of plan cell)) ++ (codes "}"))))))) 14 97
    111 (front-short cell)
    (text (codes "{\"type\":\"node\",\"id\":") (decimal (cell + 1) ++
    (codes ",\"lat\":" ++ (mil6 (pos (1000 * row_of plan cell)) ++
    (codes ",\"lon\":" ++ (mil6 (pos (1000 * column_of plan cell)) ++ (codes "}")))))) 20 77 97 (omega arith)
    (text (decimal (cell + 1)) (codes ",\"lat\":" ++
    (mil6 (pos (1000 * row_of plan cell)) ++ (codes ",\"lon\":" ++ (mil6 (pos (1000 * column_of plan cell)) ++ (codes "}"))))) 7 70 77
    (number-short (cell + 1) (omega (arith, few)))
    (text (codes ",\"lat\":") (mil6 (pos (1000 * row_of plan cell)) ++
    (codes ",\"lon\":" ++ (mil6 (pos (1000 * column_of plan cell)) ++ (codes "}")))) 10 60 70 (omega arith)
    (text (mil6 (pos (1000 * row_of plan cell))) (codes ",\"lon\":" ++ (mil6 (pos (1000 * column_of plan cell)) ++ (codes "}"))) 20 40 60
    (degrees-short (1000 * row_of plan cell) (omega (arith, few, div-le_self cell plan.width)))
    (text (codes ",\"lon\":") (mil6 (pos (1000 * column_of plan cell)) ++ (codes "}")) 10 30 40 (omega arith)
    (text (mil6 (pos (1000 * column_of plan cell))) (codes "}") 20 10 30
    (degrees-short (1000 * column_of plan cell) (omega (arith, few, mod-le cell plan.width))) (omega arith) (omega arith))
    (omega arith)) (omega arith)) (omega arith)) (omega arith)) (omega arith)) (omega arith) in
    omega (arith, all)

-- the element of a segment behind the end of the line before it
way-short : (plan : Plan) (k : ℕ) → k < 2000000 → start_of k < 1000000 → end_of plan k < 1000000 → length (way_part plan k) ≤ 200
unfolding way_part way_text
way-short plan k few start end =
    let all =
    text (codes ",\n") (codes "{\"type\":\"way\",\"id\":" ++
    (decimal (k + 1) ++ (codes ",\"nodes\":[" ++
    (decimal (start_of k + 1) ++ (codes "," ++
    (decimal (end_of plan k + 1) ++ (codes "],\"tags\":{\"highway\":\"" ++ (class_name (class_of plan.seed k) ++ (codes "\"}}")))))))))
    2 98 100 (omega arith)
    (text (codes "{\"type\":\"way\",\"id\":") (decimal (k + 1) ++
    (codes ",\"nodes\":[" ++ (decimal (start_of k + 1) ++
    (codes "," ++ (decimal (end_of plan k + 1) ++
    (codes "],\"tags\":{\"highway\":\"" ++ (class_name (class_of plan.seed k) ++ (codes "\"}}")))))))) 20 78 98 (omega arith)
    (text (decimal (k + 1)) (codes ",\"nodes\":[" ++
    (decimal (start_of k + 1) ++ (codes "," ++
    (decimal (end_of plan k + 1) ++ (codes "],\"tags\":{\"highway\":\"" ++ (class_name (class_of plan.seed k) ++ (codes "\"}}"))))))) 7
    71 78 (number-short (k + 1) (omega (arith, few)))
    (text (codes ",\"nodes\":[") (decimal (start_of k + 1) ++
    (codes "," ++ (decimal (end_of plan k + 1) ++
    (codes "],\"tags\":{\"highway\":\"" ++ (class_name (class_of plan.seed k) ++ (codes "\"}}")))))) 10 61 71 (omega arith)
    (text (decimal (start_of k + 1)) (codes "," ++
    (decimal (end_of plan k + 1) ++ (codes "],\"tags\":{\"highway\":\"" ++ (class_name (class_of plan.seed k) ++ (codes "\"}}"))))) 7 54
    61 (number-short (start_of k + 1) (omega (arith, start)))
    (text (codes ",") (decimal (end_of plan k + 1) ++
    (codes "],\"tags\":{\"highway\":\"" ++ (class_name (class_of plan.seed k) ++ (codes "\"}}")))) 1 53 54 (omega arith)
    (text (decimal (end_of plan k + 1)) (codes "],\"tags\":{\"highway\":\"" ++ (class_name (class_of plan.seed k) ++ (codes "\"}}"))) 7 46
    53 (number-short (end_of plan k + 1) (omega (arith, end)))
    (text (codes "],\"tags\":{\"highway\":\"") (class_name (class_of plan.seed k) ++ (codes "\"}}")) 25 21 46 (omega arith)
    (text (class_name (class_of plan.seed k)) (codes "\"}}") 11 10 21 (class-short (class_of plan.seed k)) (omega arith) (omega arith))
    (omega arith)) (omega arith)) (omega arith)) (omega arith)) (omega arith)) (omega arith)) (omega arith)) (omega arith) in
    omega (arith, all)

-- the end
last-short : length last_part ≤ 200
unfolding last_part
last-short = omega arith

-- a part of a segment
way-part-short : (plan : Plan) (part : ℕ) → IsPlan plan → cells_of plan ≤ part → part - cells_of plan < length (segments_of plan) →
    length (get_or (parts_of plan) part []) ≤ 200
way-part-short plan part is behind within =
    let found = slice_get-there (segments_of plan) (part - cells_of plan) within in
    let way = part-way plan part (part - cells_of plan) found.0 behind refl found.1 in
    let at = segments_of-at plan (part - cells_of plan) found.0 found.1 in
    let number = numbers_of-within plan (part - cells_of plan) at.k at.at in
    let same : at.k ≡ found.0.k = ap (λ (s : GridSegment). s.k) at.is in
    let cells = cells_of-within plan is in
    let ends = is_there-within plan at.k is.some_width number.there in
    subst (λ (l : List ℕ). length l ≤ 200) (sym way.1)
    (subst (λ (k : ℕ). length (way_part plan k) ≤ 200) same
    (way-short plan at.k (omega (arith, number.below, cells)) (omega (arith, ends.start, cells)) (omega (arith, ends.end, cells))))

-- each part
part-short : (plan : Plan) (part : ℕ) → IsPlan plan → part < length (parts_of plan) → length (get_or (parts_of plan) part []) ≤ 200
part-short plan part is within =
    elim (cases_lt part (cells_of plan)) [
      | inl node ↦ subst (λ (l : List ℕ). length l ≤ 200) (sym (part-node plan part node))
          (node-short plan part (omega (arith, node, cells_of-within plan is)))
      | inr behind ↦ elim (cases_lt (part - cells_of plan) (length (segments_of plan))) [
        | inl way ↦ way-part-short plan part is behind way
        | inr end ↦ subst (λ (l : List ℕ). length l ≤ 200)
            (sym (part-last plan part (omega (arith, within, length-parts_of plan, behind, end)))) last-short
      ]
    ]

-- the text of a grid's map is shorter than what a builder takes
pub overpass_text-short : (plan : Plan) → IsPlan plan → length (overpass_text plan) < 2 ^ 63
overpass_text-short plan is =
    let all = concat-short (parts_of plan) (λ i below. part-short plan i is below) in
    omega (
      arith,
      all,
      length-parts_of plan,
      cells_of-within plan is,
      length-numbers_below plan (2 * cells_of plan),
      length-map (numbers_of plan) (segment_of plan),
    )
