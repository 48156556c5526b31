-- What follows from the definition of a turn's cosine, and the bounds that it is computed in.
use Rattle.std.proofs.Common.{◌≡◌, ℕ, ◌*◌, ◌≤◌, ◌<◌, ℤ, ◌/◌, ◌≢◌, ◌==◌, pos, negsuc, ◌*ℤ◌, int_le, unsigned_abs, Bool, true, false, cond, refl, FitsSigned, w64, to_z, of_z, ap, ◌∙◌, sym, subst, arith}
use Rattle.std.specs.Int.{w128}
use Rattle.std.proofs.lemmas.Bool.{eqb-false, ne_eqb}
use Rattle.std.proofs.Math.IntN.{*ℤ_comm}
use Rattle.std.proofs.lemmas.Nat.{le-div, div_below, mul-le}
use Rattle.std.proofs.lemmas.Int.{ints, clamps, to_z-of_z, to_z_pos, unsigned_abs-mul, fits_signed_from_abs, quot_fits}
use Rattle.geo_int.specs.Turn.{turn_cosine, arrow_dot, held, quotient}
use Rattle.geo_int.specs.Arrow.{IsArrow, length_of, square_sum}
use Rattle.geo_int.specs.declared.offsets.Arrow.{Arrow}
use Rattle.geo_int.proofs.RootLemmas.{whole_root-next, whole_root-below, not_above}
use Rattle.geo_int.proofs.ProductLemmas.{TwoProducts, two_products}
use Rattle.geo_int.proofs.QuotientLemmas.{unsigned_abs-int_div}
use Rattle.geo_int.proofs.SquareLemmas.{square_sum-is, square_sum-dot}

-- the part to the east is within the length
pub east_le : (arrow : Arrow) → IsArrow arrow → unsigned_abs arrow.dx ≤ arrow.len
unfolding length_of
east_le arrow is =
    rw is.rooted (not_above (square_sum arrow.dx arrow.dy) _ _ (rw (square_sum-is arrow.dx arrow.dy) (omega arith)) (whole_root-next _))

-- the part to the north is within the length
pub north_le : (arrow : Arrow) → IsArrow arrow → unsigned_abs arrow.dy ≤ arrow.len
unfolding length_of
north_le arrow is =
    rw is.rooted (not_above (square_sum arrow.dx arrow.dy) _ _ (rw (square_sum-is arrow.dx arrow.dy) (omega arith)) (whole_root-next _))

-- the turn back has the same cosine
pub turn_cosine-swap : (first second : Arrow) → turn_cosine second first ≡ turn_cosine first second
unfolding turn_cosine
turn_cosine-swap first second =
    let lengths : second.len * first.len ≡ first.len * second.len = omega arith in
    let dots : arrow_dot second first ≡ arrow_dot first second =
    omega (arith, ints, *ℤ_comm first.dx second.dx, *ℤ_comm first.dy second.dy) in
    rw (lengths, dots) refl

-- what is at least the greatest cosine is held at it
held-top : (n : ℕ) → 1000000 ≤ n → held (pos n) ≡ pos 1000000
held-top n h = omega (arith, ints, clamps)

-- a quotient by what is no more is at least a million millionths
quotient-top : (dot lengths : ℕ) → lengths ≢ 0 → lengths ≤ dot → 1000000 ≤ dot * 1000000 / lengths
quotient-top dot lengths some more = le-div 1000000 (dot * 1000000) lengths (omega arith) (omega arith)

-- a choice by a test whose two answers are one
either_choice : (s : Bool) (x y : ℤ) → (s ≡ false → y ≡ x) → cond s x y ≡ x
either_choice true x y f = refl
either_choice false x y f = f refl

-- an arrow goes straight on into itself
pub turn_cosine-straight : (arrow : Arrow) → IsArrow arrow → turn_cosine arrow arrow ≡ pos 1000000
unfolding turn_cosine length_of
turn_cosine-straight arrow is =
    let sum = square_sum arrow.dx arrow.dy in
    let below : arrow.len * arrow.len ≤ sum = rw is.rooted (whole_root-below sum) in
    let dot : arrow_dot arrow arrow ≡ pos sum = square_sum-dot arrow.dx arrow.dy in
    either_choice (arrow.len * arrow.len == 0) (pos 1000000) (held (quotient (arrow_dot arrow arrow) (arrow.len * arrow.len)))
    (λ some. rw dot (held-top (sum * 1000000 / (arrow.len * arrow.len)) (quotient-top sum _ (eqb-false _ _ some) below)))

-- two arrows of at most 100 kilometres: the lengths, and the products of the parts
pub record TurnFits (first second : Arrow) : Type 0 where
  pub lengths : first.len * second.len ≤ 10000000000000000
  pub products : TwoProducts first.dx second.dx first.dy second.dy (first.len * second.len)

-- what the sum of the products of two arrows stays within
pub turn_fits : (first second : Arrow) → IsArrow first → IsArrow second → TurnFits first second
turn_fits first second f s = record {
  lengths = mul-le first.len second.len 100000000 100000000 f.short s.short;
  products = two_products first.dx second.dx first.dy second.dy first.len second.len (east_le first f) (east_le second s)
      (north_le first f) (north_le second s) (omega (arith, f.short)) (omega (arith, s.short));
}

-- the quotient of a sum of products by the lengths
pub record DividedFits (dot : ℤ) (lengths : ℕ) : Type 0 where
  pub wide : FitsSigned w128 dot
  pub product : FitsSigned w128 (dot *ℤ pos 1000000)
  pub back : FitsSigned w64 (quotient dot lengths)
  pub whole : FitsSigned w128 (quotient dot lengths)

-- a product of 128 bits by a million fits, and its quotient is below two millions
pub divided_fits : (dot : ℤ) (lengths : ℕ) → 0 < lengths → lengths ≤ 10000000000000000 → unsigned_abs dot ≤ 2 * lengths →
    DividedFits dot lengths
divided_fits dot lengths some most within =
    let product : unsigned_abs (dot *ℤ pos 1000000) ≡ unsigned_abs dot * 1000000 = unsigned_abs-mul dot (pos 1000000) in
    let small : unsigned_abs (dot *ℤ pos 1000000) / lengths < 2000001 =
    div_below (unsigned_abs (dot *ℤ pos 1000000)) lengths 2000001 some (omega arith) in
    let q : unsigned_abs (quotient dot lengths) < 2000001 = rw (unsigned_abs-int_div (dot *ℤ pos 1000000) lengths) small in
    record {
      wide = fits_signed_from_abs w128 _ (omega arith);
      product = fits_signed_from_abs w128 _ (omega arith);
      back = fits_signed_from_abs w64 _ (omega arith);
      whole = fits_signed_from_abs w128 _ (omega arith);
    }

-- the quotient in 64 bits
pub record SmallDividedFits (dot : ℤ) (lengths : ℕ) : Type 0 where
  pub lengths_is : to_z w64 lengths ≡ pos lengths
  pub product : FitsSigned w64 (dot *ℤ pos 1000000)
  pub quotient : FitsSigned w64 (quotient dot lengths)

-- a small product by a million fits in 64 bits
pub small_divided_fits : (dot : ℤ) (lengths : ℕ) → 0 < lengths → lengths ≤ 10000000000000000 →
    int_le (negsuc 8999999999999) dot ≡ true → int_le dot (pos 9000000000000) ≡ true → SmallDividedFits dot lengths
small_divided_fits dot lengths some most low high =
    let small : unsigned_abs dot ≤ 9000000000000 = omega (arith, ints, low, high) in
    let whole : unsigned_abs (dot *ℤ pos 1000000) ≡ unsigned_abs dot * 1000000 = unsigned_abs-mul dot (pos 1000000) in
    let product : FitsSigned w64 (dot *ℤ pos 1000000) = fits_signed_from_abs w64 _ (omega (arith, whole, small)) in
    record {
      lengths_is = to_z_pos w64 _ (omega (arith, most));
      product = product;
      quotient = quot_fits w64 _ _ product (omega (arith, ints, some));
    }

-- where one arrow has no length the turn goes straight on
pub turn_cosine-none : (first second : Arrow) → first.len * second.len ≡ 0 → turn_cosine first second ≡ pos 1000000
unfolding turn_cosine
turn_cosine-none first second none = rw none refl

-- where both have one it is the quotient, held
pub turn_cosine-some : (first second : Arrow) → first.len * second.len ≢ 0 →
    turn_cosine first second ≡ held (quotient (arrow_dot first second) (first.len * second.len))
unfolding turn_cosine
turn_cosine-some first second some = rw (ne_eqb (first.len * second.len) 0 some) refl

-- two equal arrows go straight on
pub turn_cosine-same : (first second : Arrow) → IsArrow first → first ≡ second → turn_cosine first second ≡ pos 1000000
turn_cosine-same first second is e = subst (λ x. turn_cosine first x ≡ pos 1000000) e (turn_cosine-straight first is)

-- what was computed step by step in 64 bits is the cosine of the turn
pub turn_cosine-computed : (first second : Arrow) (sum divided result : ℤ) → first.len * second.len ≢ 0 →
    FitsSigned w64 sum → FitsSigned w64 divided → FitsSigned w64 result → sum ≡ arrow_dot first second →
    divided ≡ quotient (to_z w64 (of_z w64 sum)) (first.len * second.len) → result ≡ held (to_z w64 (of_z w64 divided)) →
    to_z w64 (of_z w64 result) ≡ turn_cosine first second
turn_cosine-computed first second sum divided result some f g h a b c =
    let quot : divided ≡ quotient sum (first.len * second.len) = simp to_z-of_z at b in
    let top : result ≡ held divided = simp to_z-of_z at c in
    simp to_z-of_z
    (top ∙ ap held quot ∙ ap (λ x. held (quotient x (first.len * second.len))) a ∙ sym (turn_cosine-some first second some))
