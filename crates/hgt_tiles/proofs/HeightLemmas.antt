-- The four samples around a place, and what lies between them.
use Rattle.std.proofs.Common.{Bool, true, false, cond, Some, None, IfSome, ◌≡◌, ℕ, ◌+◌, ◌-◌, ◌*◌, ◌/◌, ◌%◌, ◌<◌, ◌≤◌, ℤ, pos, negsuc, ◌*ℤ◌, length, get_or, refl, ap, ◌∙◌, arith}
use Rattle.std.specs.Int.{int_div_euclid}
use Rattle.std.proofs.lemmas.List.{get_or_default}
use Rattle.std.proofs.lemmas.Nat.{mul-add-lt, mul-le, div_below}
use Rattle.std.proofs.lemmas.Int.{ints}
use borrow.Author.Differences.{up, down}
use Rattle.hgt_tiles.specs.Relief.{Relief, IsRelief, sample, void}
use Rattle.hgt_tiles.specs.Height.{step_at, share_at, around, mix, between, height_on, has_void, AgreesWithSamples}
use Rattle.hgt_tiles.specs.declared.heights.Cell.{Cell}

-- what was read at a place of the list is the sample there
sample-at : (r : Relief) (row column at : ℕ) (read : ℤ) → at ≡ (r.steps - row) * (r.steps + 1) + column → at < length r.samples →
    read ≡ get_or r.samples at read → read ≡ sample r row column
unfolding sample
sample-at r row column at read is inside e = e ∙ get_or_default r.samples at read void inside ∙ ap (λ k. get_or r.samples k void) is

-- a row and a column of the grid are within the list
inside_grid : (r : Relief) (row column : ℕ) → IsRelief r → column ≤ r.steps → (r.steps - row) * (r.steps + 1) + column < length r.samples
inside_grid r row column is c = rw is.whole (mul-add-lt (r.steps - row) (r.steps + 1) column (r.steps + 1) (omega arith) (omega arith))

-- an offset lies before the last row and column
before_last : (offset steps : ℕ) → offset < 1000000 → 0 < steps → offset * steps / 1000000 < steps
before_last offset steps small some =
    div_below (offset * steps) 1000000 steps (omega arith)
    (omega (arith, mul-le (offset + 1) steps 1000000 steps (omega arith) (omega arith)))

-- two cells of the same six parts are one
cell-same : (x y : Cell) → x.south_west ≡ y.south_west → x.south_east ≡ y.south_east → x.north_west ≡ y.north_west →
    x.north_east ≡ y.north_east → x.east ≡ y.east → x.north ≡ y.north → x ≡ y
cell-same x y p q r s t u =
    λ i. record { south_west = p i; south_east = q i; north_west = r i; north_east = s i; east = t i; north = u i }

-- one row further north is one row earlier in the list
row_before : (steps row column : ℕ) → row < steps →
    (steps - row) * (steps + 1) + column - (steps + 1) ≡ (steps - (row + 1)) * (steps + 1) + column
row_before steps row column inside =
    let e : steps - row ≡ (steps - (row + 1)) + 1 = omega arith in
    omega (arith, ap (λ k. k * (steps + 1)) e)

-- the cell that is read is the one around the place
pub around-is : (r : Relief) (a b south north : ℕ) (cell : Cell) → IsRelief r → a < 1000000 → b < 1000000 →
    south ≡ (r.steps - b * r.steps / 1000000) * (r.steps + 1) + a * r.steps / 1000000 → north ≡ south - (r.steps + 1) →
    cell.south_west ≡ get_or r.samples south cell.south_west → cell.south_east ≡ get_or r.samples (south + 1) cell.south_east →
    cell.north_west ≡ get_or r.samples north cell.north_west → cell.north_east ≡ get_or r.samples (north + 1) cell.north_east →
    cell.east ≡ a * r.steps % 1000000 → cell.north ≡ b * r.steps % 1000000 → cell ≡ around r a b
unfolding around step_at share_at
around-is r a b south north cell is p q s n sw se nw ne e f =
    let column = a * r.steps / 1000000 in
    let row = b * r.steps / 1000000 in
    let c : column < r.steps = before_last a r.steps p is.some in
    let d : row < r.steps = before_last b r.steps q is.some in
    let up : north ≡ (r.steps - (row + 1)) * (r.steps + 1) + column = n ∙ ap (λ k. k - (r.steps + 1)) s ∙ row_before r.steps row column d in
    let low = inside_grid r row column is (omega arith) in
    let low' = inside_grid r row (column + 1) is (omega arith) in
    let high = inside_grid r (row + 1) column is (omega arith) in
    let high' = inside_grid r (row + 1) (column + 1) is (omega arith) in
    cell-same _ _
    (sample-at r row column south _ s (omega arith) sw)
    (sample-at r row (column + 1) (south + 1) _ (omega arith) (omega arith) se)
    (sample-at r (row + 1) column north _ up (omega arith) nw)
    (sample-at r (row + 1) (column + 1) (north + 1) _ (omega arith) (omega arith) ne)
    e f

-- a million times a number below 0, divided by a million
whole_below : (n : ℕ) (z : ℤ) → z ≡ pos 1000000 *ℤ negsuc n → int_div_euclid z (pos 1000000) ≡ negsuc n
whole_below n (pos m) e = omega (arith, ints)
whole_below n (negsuc m) e = omega (arith, ints)

-- a million times a number, divided by a million
whole : (z : ℤ) → int_div_euclid (pos 1000000 *ℤ z) (pos 1000000) ≡ z
whole (pos n) = omega (arith, ints)
whole (negsuc n) = whole_below n _ refl

-- between two equal numbers lies that number
mix-level : (share : ℕ) (z : ℤ) → share ≤ 1000000 → mix share z z ≡ pos 1000000 *ℤ z
unfolding mix
mix-level share z small =
    let e : (1000000 - share) + share ≡ 1000000 = omega arith in
    omega (arith, ints, ap (λ k. k * up z) e, ap (λ k. k * down z) e)

-- with no share of the second lies the first
mix-none : (x y : ℤ) → mix 0 x y ≡ pos 1000000 *ℤ x
unfolding mix
mix-none x y = omega (arith, ints)

-- a share is at most a million
share_le : (r : Relief) (offset : ℕ) → share_at r offset ≤ 1000000
unfolding share_at
share_le r offset = omega arith

-- what lies between four samples
pub between-lawful : (cell : Cell) → cell.east ≤ 1000000 → cell.north ≤ 1000000 → AgreesWithSamples cell (between cell)
unfolding between
between-lawful cell east north = record {
  level = λ metres p q r s.
      let million = pos 1000000 *ℤ metres in
      rw (p, q, r, s, mix-level cell.east metres east, mix-level cell.north million north, whole million) refl;
  at_sample = λ e f.
      let sw = cell.south_west in
      let se = cell.south_east in
      rw (e, f, mix-none (mix 0 sw se) (mix 0 cell.north_west cell.north_east), mix-none sw se, whole (pos 1000000 *ℤ sw)) refl;
}

-- a choice that is there
if_known : (void_ : Bool) (height : ℤ) (P : ℤ → Type 0) → P height → IfSome (cond void_ None (Some height)) P
if_known true height P p = tt
if_known false height P p = p

-- a height on a relief lies between the samples around it
pub height_on-lawful : (r : Relief) (a b : ℕ) → IfSome (height_on r a b) (AgreesWithSamples (around r a b))
unfolding around
height_on-lawful r a b =
    if_known (has_void (around r a b)) (between (around r a b)) (AgreesWithSamples (around r a b))
    (between-lawful (around r a b) (share_le r a) (share_le r b))
