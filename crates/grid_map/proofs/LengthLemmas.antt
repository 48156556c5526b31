-- The segments of a grid are short.
use Rattle.std.proofs.Common.{ℕ, ◌≡◌, ◌+◌, ◌*◌, ◌/◌, ◌%◌, ◌<◌, ◌≤◌, true, inl, inr, ℤ, pos, ◌-ℤ◌, ◌*ℤ◌, unsigned_abs, ap, ◌∙◌, arith}
use Rattle.std.proofs.lemmas.Bool.{cases_lt, ltb-true}
use Rattle.std.proofs.lemmas.Int.{ints, unsigned_abs-mul}
use Rattle.std.proofs.lemmas.Nat.{mul-le, mod-mul-add, mod_below, div-mul-add, div-add-mod'}
use Rattle.geo_int.specs.Root.{root_up_to, whole_root}
use Rattle.geo_int.specs.Cosine.{series_term, cosine_series, cosine_at}
use Rattle.geo_int.specs.Arrow.{north_part, east_part, middle_latitude, north_between, east_between, square_sum, length_of, length_between}
use Rattle.geo_int.proofs.QuotientLemmas.{unsigned_abs-int_div, east_product_le}
use Rattle.geo_int.proofs.SquareLemmas.{square_sum-is}
use Rattle.grid_map.specs.declared.plan.Plan.{Plan}
use Rattle.grid_map.specs.Plan.{column_of, row_of, is_east, start_of, end_of, has_room, is_there}
use Rattle.grid_map.specs.Lengths.{cell_place, segment_length}
use Rattle.grid_map.proofs.StepLemmas.{holds-either, is_there-parts}
use Rattle.geo_int.proofs.CallerLemmas.{root_up_to-below}

-- a root is no greater than a number whose next one's square is above
whole_root-le : (n most : ℕ) → n < (most + 1) * (most + 1) → whole_root n ≤ most
unfolding whole_root
whole_root-le n most above =
    elim (cases_lt most (root_up_to n n)) [
      | inl more ↦ absurd
          (omega (arith, root_up_to-below n n, mul-le (most + 1) (most + 1) (root_up_to n n) (root_up_to n n) (omega arith) (omega arith)))
      | inr within ↦ within
    ]

-- no cosine is above one
cosine_at-le : (lat : ℤ) → cosine_at lat ≤ 1000000000
unfolding cosine_at cosine_series series_term
cosine_at-le lat = omega arith

-- the difference of two numbers that lie close together
near-difference : (m n most : ℕ) → m ≤ n → n ≤ m + most → unsigned_abs (pos n -ℤ pos m) ≤ most
near-difference m n most low high = grind (arith, ints)

-- a thousandth of a degree to the east is at most 111,320 millimetres
east_part-le :
    (degrees cosine : ℤ) → unsigned_abs degrees ≤ 1000 → unsigned_abs cosine ≤ 1000000000 → unsigned_abs (east_part degrees cosine) ≤ 111320
unfolding east_part
east_part-le degrees cosine d c =
    let e : unsigned_abs (degrees *ℤ pos 11132 *ℤ cosine) ≤ 1000 * 11132 * 1000000000 = east_product_le degrees cosine 1000 d c in
    rw (unsigned_abs-int_div (degrees *ℤ pos 11132 *ℤ cosine) 100000000000) (omega arith)

-- a thousandth of a degree to the north is 111,320 millimetres
north_part-le : (degrees : ℤ) → unsigned_abs degrees ≤ 1000 → unsigned_abs (north_part degrees) ≤ 111320
unfolding north_part
north_part-le degrees d =
    let e : unsigned_abs (degrees *ℤ pos 11132) ≡ unsigned_abs degrees * 11132 = unsigned_abs-mul degrees (pos 11132) in
    rw (unsigned_abs-int_div (degrees *ℤ pos 11132) 100) (omega arith)

-- the length of an arrow of two short parts
length_of-le : (east north : ℤ) → unsigned_abs east ≤ 111320 → unsigned_abs north ≤ 111320 → length_of east north ≤ 100000000
unfolding length_of
length_of-le east north e n =
    let squares : square_sum east north ≤ 111320 * 111320 + 111320 * 111320 =
    omega (
      arith,
      square_sum-is east north,
      mul-le (unsigned_abs east) (unsigned_abs east) 111320 111320 e e,
      mul-le (unsigned_abs north)
          (unsigned_abs north) 111320 111320 n n,
    ) in
    whole_root-le (square_sum east north) 100000000 (omega arith)

-- two cells that lie side by side
record IsBeside (plan : Plan) (a b : ℕ) : Type 0 where
  column_low : column_of plan a ≤ column_of plan b
  column_high : column_of plan b ≤ column_of plan a + 1
  row_low : row_of plan a ≤ row_of plan b
  row_high : row_of plan b ≤ row_of plan a + 1

-- two cells that lie side by side are at most 100 kilometres apart
beside-short : (plan : Plan) (a b : ℕ) → IsBeside plan a b → length_between (cell_place plan a) (cell_place plan b) ≤ 100000000
unfolding length_between east_between north_between
beside-short plan a b beside =
    let lon : unsigned_abs (pos (1000 * column_of plan b) -ℤ pos (1000 * column_of plan a)) ≤ 1000 =
    near-difference (1000 * column_of plan a) (1000 * column_of plan b) 1000 (omega (arith, beside.column_low))
    (omega (arith, beside.column_high)) in
    let lat : unsigned_abs (pos (1000 * row_of plan b) -ℤ pos (1000 * row_of plan a)) ≤ 1000 =
    near-difference (1000 * row_of plan a) (1000 * row_of plan b) 1000 (omega (arith, beside.row_low)) (omega (arith, beside.row_high)) in
    length_of-le _ _
    (east_part-le _ (pos (cosine_at (middle_latitude (cell_place plan a) (cell_place plan b)))) lon (cosine_at-le _))
    (north_part-le _ lat)

-- the next cell of a row lies beside
east-beside : (plan : Plan) (n : ℕ) → n % plan.width + 1 < plan.width → IsBeside plan n (n + 1)
east-beside plan n room =
    let split : n + 1 ≡ n / plan.width * plan.width + (n % plan.width + 1) = omega (arith, div-add-mod' n plan.width) in
    let column : (n + 1) % plan.width ≡ n % plan.width + 1 =
    ap (λ m. m % plan.width) split ∙ mod-mul-add (n / plan.width) plan.width (n % plan.width + 1) room in
    let row : (n + 1) / plan.width ≡ n / plan.width =
    ap (λ m. m / plan.width) split ∙ div-mul-add (n / plan.width) plan.width (n % plan.width + 1) room in
    record { column_low = omega arith; column_high = omega arith; row_low = omega arith; row_high = omega arith }

-- the cell a row further lies beside
north-beside : (plan : Plan) (n : ℕ) → 0 < plan.width → IsBeside plan n (n + plan.width)
north-beside plan n some =
    let below : n % plan.width < plan.width = mod_below n plan.width some in
    let split : n + plan.width ≡ (n / plan.width + 1) * plan.width + n % plan.width = omega (arith, div-add-mod' n plan.width) in
    let column : (n + plan.width) % plan.width ≡ n % plan.width =
    ap (λ m. m % plan.width) split ∙ mod-mul-add (n / plan.width + 1) plan.width (n % plan.width) below in
    let row : (n + plan.width) / plan.width ≡ n / plan.width + 1 =
    ap (λ m. m / plan.width) split ∙ div-mul-add (n / plan.width + 1) plan.width (n % plan.width) below in
    record { column_low = omega arith; column_high = omega arith; row_low = omega arith; row_high = omega arith }

-- the cells of a segment that is there lie side by side
segment-beside : (plan : Plan) (k : ℕ) → 0 < plan.width → is_there plan k ≡ true → IsBeside plan (start_of k) (end_of plan k)
unfolding has_room end_of
segment-beside plan k some there =
    holds-either (IsBeside plan (start_of k)) (is_east k) _ _ _ _
    (λ passes. east-beside plan (start_of k) (ltb-true _ _ passes))
    (λ passes. north-beside plan (start_of k) some)
    (is_there-parts plan k there).1

-- no segment is longer than 100 kilometres
pub segment_length-short : (plan : Plan) (k : ℕ) → 0 < plan.width → is_there plan k ≡ true → segment_length plan k ≤ 100000000
unfolding segment_length
segment_length-short plan k some there = beside-short plan (start_of k) (end_of plan k) (segment-beside plan k some there)
