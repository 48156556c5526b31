-- What follows from the definition of touching.
use Rattle.std.proofs.Common.{◌≡◌, ℕ, zero, suc, negsuc, ◌+◌, ◌*◌, ◌≤◌, ◌&&◌, ℤ, pos, neg_ℤ, ◌+ℤ◌, ◌-ℤ◌, ◌*ℤ◌, ◌≤ℤ◌, int_le, unsigned_abs, IsTrue, Bool, true, false, cond, refl, sym, ap, ◌∙◌, subst, arith}
use Rattle.std.proofs.Math.IntN.{*ℤ_comm}
use Rattle.std.proofs.lemmas.Nat.{mul-le}
use Rattle.std.proofs.lemmas.Int.{ints}
use Rattle.std.proofs.lemmas.Bool.Decides.{nat_tests}
use Rattle.geo_int.specs.Place.{Place}
use Rattle.geo_int.specs.Circle.{offsets_touch, way_touches, foot, way_square, dot, cross, end_touches, line_touches, is_near, circle_touches, offset_between, IsWithin}
use Rattle.geo_int.specs.declared.circles.Offset.{Offset}
use Rattle.geo_int.proofs.ProductLemmas.{mul-sub, square-sub}
use Rattle.geo_int.proofs.SquareLemmas.{square-is}

-- the foot is what the products of the ends leave
pub foot-is : (a b : Offset) → foot a b ≡ dot a a -ℤ dot a b
foot-is a b = omega (arith, ints, mul-sub a.east b.east a.east, mul-sub a.north b.north a.north)

-- the products of two offsets do not depend on their order
pub dot-comm : (a b : Offset) → dot a b ≡ dot b a
dot-comm a b = omega (arith, ints, *ℤ_comm a.east b.east, *ℤ_comm a.north b.north)

-- the two feet make up the way
pub way_square-is : (a b : Offset) → way_square a b ≡ foot a b +ℤ foot b a
way_square-is a b =
    omega (arith, ints, square-sub a.east b.east, square-sub a.north b.north, foot-is a b, foot-is b a, dot-comm a b)

-- the square of the way is that of the way back
pub way_square-swap : (a b : Offset) → way_square b a ≡ way_square a b
way_square-swap a b = omega (arith, ints, way_square-is a b, way_square-is b a)

-- the doubled area changes its sign alone
pub cross-swap : (a b : Offset) → cross b a ≡ neg_ℤ (cross a b)
cross-swap a b = omega (arith, ints, *ℤ_comm a.east b.north, *ℤ_comm a.north b.east)

-- a number and its opposite have one square
pub square-neg : (x : ℤ) → neg_ℤ x *ℤ neg_ℤ x ≡ x *ℤ x
square-neg (pos zero) = refl
square-neg (pos (suc n)) = refl
square-neg (negsuc n) = refl

-- a sum of two squares is no less than 0
pub square_sum-pos : (x y : ℤ) → x *ℤ x +ℤ y *ℤ y ≡ pos (unsigned_abs x * unsigned_abs x + unsigned_abs y * unsigned_abs y)
square_sum-pos x y = rw (square-is x, square-is y) refl

-- the line is within from either side
line_touches-swap : (a b : Offset) (square : ℕ) → line_touches b a square ≡ line_touches a b square
line_touches-swap a b square = rw (cross-swap a b, way_square-swap a b, square-neg (cross a b)) refl

-- the choice by the foot is the same from either end, where the two feet make up the way
choice-swap : (p q way : ℤ) (first second line : Bool) → way ≡ p +ℤ q → pos 0 ≤ℤ way → (p ≡ pos 0 → q ≡ pos 0 → first ≡ second) →
    cond (int_le q (pos 0)) second (cond (int_le way q) first line) ≡ cond (int_le p (pos 0)) first (cond (int_le way p) second line)
choice-swap p q way first second line is positive ends = grind (arith, ints)

-- the same where the way back and its line are only equal to the way and its line
choice-back : (p q way back : ℤ) (first second line turned : Bool) → back ≡ way → turned ≡ line → way ≡ p +ℤ q → pos 0 ≤ℤ way →
    (p ≡ pos 0 → q ≡ pos 0 → first ≡ second) →
    cond (int_le q (pos 0)) second (cond (int_le back q) first turned) ≡ cond (int_le p (pos 0)) first (cond (int_le way p) second line)
choice-back p q way back first second line turned e f is positive ends =
    ap (λ k. cond (int_le q (pos 0)) second (cond (int_le k q) first turned)) e
    ∙ ap (λ t. cond (int_le q (pos 0)) second (cond (int_le way q) first t)) f
    ∙ choice-swap p q way first second line is positive ends

-- where both feet are at the ends, the ends are equally far from the centre
same_ends : (a b : Offset) → foot a b ≡ pos 0 → foot b a ≡ pos 0 → dot a a ≡ dot b b
same_ends a b p q = omega (arith, ints, foot-is a b, foot-is b a, dot-comm a b)

-- the square of the way is no less than 0
way_square-positive : (a b : Offset) → pos 0 ≤ℤ way_square a b
way_square-positive a b = omega (arith, ints, square_sum-pos (b.east -ℤ a.east) (b.north -ℤ a.north))

-- the way back is touched where the way is
pub way_touches-swap : (a b : Offset) (square : ℕ) → way_touches b a square ≡ way_touches a b square
unfolding way_touches
way_touches-swap a b square =
    choice-back (foot a b) (foot b a) (way_square a b) (way_square b a) _ _ _ _ (way_square-swap a b) (line_touches-swap a b square)
    (way_square-is a b) (way_square-positive a b) (λ p q. ap (λ k. int_le k (pos square)) (same_ends a b p q))

-- two tests may change places
both-swap : (s t x y : Bool) → x ≡ y → cond (t && s) x false ≡ cond (s && t) y false
both-swap true true x y e = e
both-swap true false x y e = refl
both-swap false true x y e = refl
both-swap false false x y e = refl

-- so a circle touches both or neither
pub offsets_touch-swap : (a b : Offset) (radius : ℕ) → offsets_touch b a radius ≡ offsets_touch a b radius
unfolding offsets_touch
offsets_touch-swap a b radius = both-swap (is_near a) (is_near b) _ _ (way_touches-swap a b (radius * radius))

-- a choice of three holds still where each of the three does
choice-grows : (s t first second line first' second' line' : Bool) → (first ≡ true → first' ≡ true) → (second ≡ true → second' ≡ true) →
    (line ≡ true → line' ≡ true) → cond s first (cond t second line) ≡ true → cond s first' (cond t second' line') ≡ true
choice-grows true t first second line first' second' line' f g h e = f e
choice-grows false true first second line first' second' line' f g h e = g e
choice-grows false false first second line first' second' line' f g h e = h e

-- what is at most a number is at most a larger one
int_le-grows : (x : ℤ) (m n : ℕ) → m ≤ n → int_le x (pos m) ≡ true → int_le x (pos n) ≡ true
int_le-grows x m n more e = grind (arith, ints)

-- the larger square holds the line that the smaller holds
line_touches-grows : (a b : Offset) (m n : ℕ) → m ≤ n → line_touches a b m ≡ true → line_touches a b n ≡ true
line_touches-grows a b m n more e =
    let east = unsigned_abs (b.east -ℤ a.east) in
    let north = unsigned_abs (b.north -ℤ a.north) in
    let way = east * east + north * north in
    let is : way_square a b ≡ pos way = square_sum-pos (b.east -ℤ a.east) (b.north -ℤ a.north) in
    let smaller : int_le (cross a b *ℤ cross a b) (pos (m * way)) ≡ true =
    subst (λ k. int_le (cross a b *ℤ cross a b) (pos m *ℤ k) ≡ true) is e in
    subst (λ k. int_le (cross a b *ℤ cross a b) (pos n *ℤ k) ≡ true) (sym is)
    (int_le-grows (cross a b *ℤ cross a b) (m * way) (n * way) (mul-le m way n way more (omega arith)) smaller)

-- a larger circle touches the way that a smaller one touches
pub way_touches-grows : (a b : Offset) (m n : ℕ) → m ≤ n → way_touches a b m ≡ true → way_touches a b n ≡ true
unfolding way_touches
way_touches-grows a b m n more =
    choice-grows _ _ _ _ _ _ _ _ (int_le-grows (dot a a) m n more) (int_le-grows (dot b b) m n more) (line_touches-grows a b m n more)

-- what a gate lets through still comes
gate-grows : (s x y : Bool) → (x ≡ true → y ≡ true) → cond s x false ≡ true → cond s y false ≡ true
gate-grows true x y f e = f e
gate-grows false x y f e = e

-- and so at any two offsets
pub offsets_touch-grows : (a b : Offset) (m n : ℕ) → m ≤ n → offsets_touch a b m ≡ true → offsets_touch a b n ≡ true
unfolding offsets_touch
offsets_touch-grows a b m n more =
    gate-grows (is_near a && is_near b) _ _ (way_touches-grows a b (m * m) (n * n) (mul-le m m n n more more))

-- the way back between two places is touched where the way is
pub circle_touches-swap : (a b centre : Place) (radius : ℕ) → circle_touches b a centre radius ≡ circle_touches a b centre radius
unfolding circle_touches
circle_touches-swap a b centre radius = offsets_touch-swap (offset_between centre a) (offset_between centre b) radius

-- a larger circle touches the way between two places that a smaller one touches
pub circle_touches-grows : (a b centre : Place) (m n : ℕ) → m ≤ n → circle_touches a b centre m ≡ true → circle_touches a b centre n ≡ true
unfolding circle_touches
circle_touches-grows a b centre m n more = offsets_touch-grows (offset_between centre a) (offset_between centre b) m n more

-- the foot before the first end
pub way_touches-first : (a b : Offset) (square : ℕ) → int_le (foot a b) (pos 0) ≡ true → way_touches a b square ≡ end_touches a square
unfolding way_touches
way_touches-first a b square e =
    ap (λ t. cond t (end_touches a square) (cond (int_le (way_square a b) (foot a b)) (end_touches b square) (line_touches a b square))) e

-- the foot behind the second end
pub way_touches-second : (a b : Offset) (square : ℕ) → int_le (foot a b) (pos 0) ≡ false → int_le (way_square a b) (foot a b) ≡ true →
    way_touches a b square ≡ end_touches b square
unfolding way_touches
way_touches-second a b square e f =
    ap (λ t. cond t (end_touches a square) (cond (int_le (way_square a b) (foot a b)) (end_touches b square) (line_touches a b square))) e
    ∙ ap (λ t. cond t (end_touches b square) (line_touches a b square)) f

-- the foot between the ends
pub way_touches-line : (a b : Offset) (square : ℕ) → int_le (foot a b) (pos 0) ≡ false → int_le (way_square a b) (foot a b) ≡ false →
    way_touches a b square ≡ line_touches a b square
unfolding way_touches
way_touches-line a b square e f =
    ap (λ t. cond t (end_touches a square) (cond (int_le (way_square a b) (foot a b)) (end_touches b square) (line_touches a b square))) e
    ∙ ap (λ t. cond t (end_touches b square) (line_touches a b square)) f

-- a way with an end that is far is not touched
pub circle_touches-far : (a b centre : Place) (first second : Offset) (radius : ℕ) → first ≡ offset_between centre a →
    second ≡ offset_between centre b → (is_near first && is_near second) ≡ false → circle_touches a b centre radius ≡ false
unfolding circle_touches offsets_touch
circle_touches-far a b centre first second radius e f far = rw (sym e, sym f, far) refl

-- a way whose ends are near is touched by the three cases
pub circle_touches-near : (a b centre : Place) (first second : Offset) (radius : ℕ) → first ≡ offset_between centre a →
    second ≡ offset_between centre b →
    (is_near first && is_near second) ≡ true → circle_touches a b centre radius ≡ way_touches first second (radius * radius)
unfolding circle_touches offsets_touch
circle_touches-near a b centre first second radius e f near = rw (sym e, sym f, near) refl

-- a test that follows from another holds where that holds
pub grows_true : (s t : Bool) → (s ≡ true → t ≡ true) → IsTrue s → IsTrue t
grows_true s t f h = grind arith

-- where both ends are near, so are their parts
pub near-within : (a b : Offset) → (is_near a && is_near b) ≡ true → IsWithin 300000000 a × IsWithin 300000000 b
near-within a b e = grind (arith, nat_tests)
