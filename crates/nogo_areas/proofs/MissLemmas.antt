-- A way whose ends both lie beyond a circle's radius on one side isn't touched.
use Rattle.std.proofs.Common.{◌≡◌, ℕ, zero, suc, pos, negsuc, ◌+◌, ◌*◌, ◌≤◌, ◌<◌, ℤ, neg_ℤ, ◌+ℤ◌, ◌-ℤ◌, ◌*ℤ◌, int_le, unsigned_abs, Bool, true, false, cond, inl, inr, ◌-◌, refl, sym, ap, ◌∙◌, subst, arith}
use Rattle.std.proofs.Math.IntN.{*ℤ_comm, +ℤ_comm}
use Rattle.std.proofs.lemmas.Nat.{mul-le, mul-lt}
use Rattle.std.proofs.lemmas.Int.{ints}
use Rattle.geo_int.specs.Circle.{way_touches, foot, way_square}
use Rattle.geo_int.proofs.CircleLemmas.{way_touches-swap, way_touches-first, way_touches-second, way_touches-line, square-neg}
use Rattle.geo_int.proofs.ProductLemmas.{mul-sub}
use Rattle.geo_int.proofs.SquareLemmas.{square-is}
use Rattle.std.proofs.lemmas.Bool.{cases_lt}

-- ---- In whole numbers

-- the line's distance times its length is more than the radius times its length
pub farther : (a m b n r : ℕ) → n * m < a * b → r < n → (r * r) * (b * b + m * m) < (a * m + n * b) * (a * m + n * b)
farther a m zero n r opposite beyond = absurd (omega arith)
farther a m (suc b) n r opposite beyond =
    let less : r * suc b < n * suc b = omega (arith, mul-le (suc r) (suc b) n (suc b) (omega arith) (omega arith)) in
    let most : r * m ≤ n * m = mul-le r m n m (omega arith) (omega arith) in
    let east : (r * suc b) * (r * suc b) < (n * suc b) * (n * suc b) =
    mul-lt (r * suc b) (r * suc b) (n * suc b) (n * suc b) less less in
    let north : (r * m) * (r * m) ≤ (n * m) * (n * m) = mul-le (r * m) (r * m) (n * m) (n * m) most most in
    let both : (n * m) * (n * m) ≤ (a * suc b) * (n * m) = mul-le (n * m) (n * m) (a * suc b) (n * m) (omega arith) (omega arith) in
    omega (arith, east, north, both)

-- ---- In signed numbers

-- what is more than a number isn't at most that number
pub not_within : (m n : ℕ) → n < m → int_le (pos m) (pos n) ≡ false
not_within m n more = grind (arith, ints)

-- the line through both ends is out of reach where the nearer end lies this far north, the other as far or farther, and the
-- foot lies behind the nearer end
pub line-beyond : (a b : ℤ) (n m r : ℕ) → r < n → int_le (neg_ℤ (a *ℤ b +ℤ pos n *ℤ pos m)) (pos 0) ≡ false →
    int_le ((a *ℤ pos m -ℤ pos n *ℤ b) *ℤ (a *ℤ pos m -ℤ pos n *ℤ b)) (pos (r * r) *ℤ (b *ℤ b +ℤ pos m *ℤ pos m)) ≡ false
line-beyond (pos a) (pos b) n m r beyond behind = absurd (grind (arith, ints))
line-beyond (negsuc a) (negsuc b) n m r beyond behind = absurd (grind (arith, ints))
line-beyond (pos a) (negsuc b) n m r beyond behind =
    let opposite : n * m < a * suc b = grind (arith, ints) in
    let far = farther a m (suc b) n r opposite beyond in
    let way : pos a *ℤ pos m -ℤ pos n *ℤ negsuc b ≡ pos (a * m + n * suc b) = omega (arith, ints) in
    rw way (not_within _ _ far)
line-beyond (negsuc a) (pos b) n m r beyond behind =
    let opposite : n * m < suc a * b = grind (arith, ints) in
    let far = farther (suc a) m b n r opposite beyond in
    let way : negsuc a *ℤ pos m -ℤ pos n *ℤ pos b ≡ neg_ℤ (pos (suc a * m + n * b)) = omega (arith, ints) in
    rw (way, square-neg (pos (suc a * m + n * b))) (not_within _ _ far)

-- ---- The test of a way

-- an end that lies this far on one side is out of reach
pub end-beyond : (x : ℤ) (n r : ℕ) → r < n → int_le (x *ℤ x +ℤ pos n *ℤ pos n) (pos (r * r)) ≡ false
end-beyond x n r beyond =
    let square : r * r < n * n = mul-lt r r n n beyond beyond in
    let is : x *ℤ x ≡ pos (unsigned_abs x * unsigned_abs x) = square-is x in
    rw is (not_within (unsigned_abs x * unsigned_abs x + n * n) (r * r) (omega (arith, square)))

-- the doubled area by the way's steps
pub area-by_steps : (a b : ℤ) (n m : ℕ) → a *ℤ pos (n + m) -ℤ pos n *ℤ b ≡ a *ℤ pos m -ℤ pos n *ℤ (b -ℤ a)
area-by_steps a b n m = omega (arith, ints, mul-sub a (pos (n + m)) (pos n), mul-sub (pos n) b a, *ℤ_comm a (pos n))

-- the way isn't touched whose first end lies beyond the radius to the north and whose second end as far or farther
pub way-north_first : (a b : ℤ) (n m r : ℕ) → r < n →
    way_touches (record { east = a; north = pos n }) (record { east = b; north = pos (n + m) }) (r * r) ≡ false
way-north_first a b n m r beyond = chosen _ _ refl refl
  where
    chosen : (s t : Bool) → int_le (foot (record { east = a; north = pos n }) (record { east = b; north = pos (n + m) })) (pos 0) ≡ s →
        int_le (way_square (record { east = a; north = pos n }) (record { east = b; north = pos (n + m) }))
        (foot (record { east = a; north = pos n }) (record { east = b; north = pos (n + m) })) ≡ t →
        way_touches (record { east = a; north = pos n }) (record { east = b; north = pos (n + m) }) (r * r) ≡ false
    chosen true t e f = way_touches-first _ _ _ e ∙ end-beyond a n r beyond
    chosen false true e f = way_touches-second _ _ _ e f ∙ end-beyond b (n + m) r (omega arith)
    chosen false false e f =
        let up : pos (n + m) -ℤ pos n ≡ pos m = omega (arith, ints) in
        way_touches-line _ _ _ e f
        ∙ subst (λ k. int_le ((a *ℤ pos (n + m) -ℤ pos n *ℤ b) *ℤ (a *ℤ pos (n + m) -ℤ pos n *ℤ b))
        (pos (r * r) *ℤ ((b -ℤ a) *ℤ (b -ℤ a) +ℤ k *ℤ k)) ≡ false) (sym up)
        (subst (λ k. int_le (k *ℤ k) (pos (r * r) *ℤ ((b -ℤ a) *ℤ (b -ℤ a) +ℤ pos m *ℤ pos m)) ≡ false) (sym (area-by_steps a b n m))
        (line-beyond a (b -ℤ a) n m r beyond (subst (λ k. int_le (neg_ℤ (a *ℤ (b -ℤ a) +ℤ pos n *ℤ k)) (pos 0) ≡ false) up e)))

-- the test depends on five numbers
same_test : (f g w v a c b d x y : ℤ) (s : ℕ) → f ≡ g → w ≡ v → a ≡ c → b ≡ d → x ≡ y →
    cond (int_le f (pos 0)) (int_le a (pos s)) (cond (int_le w f) (int_le b (pos s)) (int_le x (pos s *ℤ w))) ≡
    cond (int_le g (pos 0)) (int_le c (pos s)) (cond (int_le v g) (int_le d (pos s)) (int_le y (pos s *ℤ v)))
same_test f g w v a c b d x y s e1 e2 e3 e4 e5 = cc

-- a product by an opposite
pub mul-neg : (x y : ℤ) → x *ℤ neg_ℤ y ≡ neg_ℤ (x *ℤ y)
mul-neg x y =
    let e : neg_ℤ y ≡ pos 0 -ℤ y = omega (arith, ints) in
    let none : x *ℤ pos 0 ≡ pos 0 = omega (arith, ints) in
    ap (λ k. x *ℤ k) e ∙ omega (arith, ints, mul-sub x (pos 0) y, none)

-- a product of two opposites
pub neg-neg : (x y : ℤ) → neg_ℤ x *ℤ neg_ℤ y ≡ x *ℤ y
neg-neg x y = omega (arith, ints, mul-neg (neg_ℤ x) y, *ℤ_comm (neg_ℤ x) y, mul-neg y x, *ℤ_comm x y)

-- a step between opposites
pub step-neg : (x y : ℤ) → neg_ℤ x -ℤ neg_ℤ y ≡ neg_ℤ (x -ℤ y)
step-neg x y = omega (arith, ints)

-- north and south may change places
pub way-flip : (a n b m : ℤ) (s : ℕ) →
    way_touches (record { east = a; north = neg_ℤ n }) (record { east = b; north = neg_ℤ m }) s ≡
    way_touches (record { east = a; north = n }) (record { east = b; north = m }) s
unfolding way_touches
way-flip a n b m s =
    let along : neg_ℤ n *ℤ (neg_ℤ m -ℤ neg_ℤ n) ≡ n *ℤ (m -ℤ n) = ap (λ k. neg_ℤ n *ℤ k) (step-neg m n) ∙ neg-neg n (m -ℤ n) in
    let step : (neg_ℤ m -ℤ neg_ℤ n) *ℤ (neg_ℤ m -ℤ neg_ℤ n) ≡ (m -ℤ n) *ℤ (m -ℤ n) =
    ap (λ k. k *ℤ k) (step-neg m n) ∙ neg-neg (m -ℤ n) (m -ℤ n) in
    let area : a *ℤ neg_ℤ m -ℤ neg_ℤ n *ℤ b ≡ neg_ℤ (a *ℤ m -ℤ n *ℤ b) =
    omega (arith, ints, mul-neg a m, *ℤ_comm (neg_ℤ n) b, mul-neg b n, *ℤ_comm n b) in
    same_test _ _ _ _ _ _ _ _ _ _ s (ap (λ k. neg_ℤ (a *ℤ (b -ℤ a) +ℤ k)) along) (ap (λ k. (b -ℤ a) *ℤ (b -ℤ a) +ℤ k) step)
    (ap (λ k. a *ℤ a +ℤ k) (neg-neg n n)) (ap (λ k. b *ℤ b +ℤ k) (neg-neg m m)) (ap (λ k. k *ℤ k) area ∙ square-neg (a *ℤ m -ℤ n *ℤ b))

-- north and east may change places
pub way-turn : (a n b m : ℤ) (s : ℕ) →
    way_touches (record { east = n; north = a }) (record { east = m; north = b }) s ≡
    way_touches (record { east = a; north = n }) (record { east = b; north = m }) s
unfolding way_touches
way-turn a n b m s =
    let area : n *ℤ b -ℤ a *ℤ m ≡ neg_ℤ (a *ℤ m -ℤ n *ℤ b) = omega (arith, ints) in
    same_test _ _ _ _ _ _ _ _ _ _ s (ap neg_ℤ (+ℤ_comm (n *ℤ (m -ℤ n)) (a *ℤ (b -ℤ a))))
    (+ℤ_comm ((m -ℤ n) *ℤ (m -ℤ n)) ((b -ℤ a) *ℤ (b -ℤ a)))
    (+ℤ_comm (n *ℤ n) (a *ℤ a)) (+ℤ_comm (m *ℤ m) (b *ℤ b)) (ap (λ k. k *ℤ k) area ∙ square-neg (a *ℤ m -ℤ n *ℤ b))

-- the way isn't touched whose ends both lie beyond the radius to the north
pub way-north : (a b : ℤ) (n m r : ℕ) → r < n → r < m →
    way_touches (record { east = a; north = pos n }) (record { east = b; north = pos m }) (r * r) ≡ false
way-north a b n m r first second = elim (cases_lt n m) [
  | inl less ↦
      let e : n + (m - n) ≡ m = omega arith in
      subst (λ k. way_touches (record { east = a; north = pos n }) (record { east = b; north = pos k }) (r * r) ≡ false) e
      (way-north_first a b n (m - n) r first)
  | inr more ↦
      let e : m + (n - m) ≡ n = omega arith in
      way_touches-swap (record { east = b; north = pos m }) (record { east = a; north = pos n }) (r * r)
      ∙ subst (λ k. way_touches (record { east = b; north = pos m }) (record { east = a; north = pos k }) (r * r) ≡ false) e
      (way-north_first b a m (n - m) r second)
]

-- nor the one whose ends both lie beyond it to the south
pub way-south : (a b : ℤ) (n m r : ℕ) → r < n → r < m →
    way_touches (record { east = a; north = neg_ℤ (pos n) }) (record { east = b; north = neg_ℤ (pos m) }) (r * r) ≡ false
way-south a b n m r first second = way-flip a (pos n) b (pos m) (r * r) ∙ way-north a b n m r first second

-- nor to the east
pub way-east : (a b : ℤ) (n m r : ℕ) → r < n → r < m →
    way_touches (record { east = pos n; north = a }) (record { east = pos m; north = b }) (r * r) ≡ false
way-east a b n m r first second = way-turn a (pos n) b (pos m) (r * r) ∙ way-north a b n m r first second

-- nor to the west
pub way-west : (a b : ℤ) (n m r : ℕ) → r < n → r < m →
    way_touches (record { east = neg_ℤ (pos n); north = a }) (record { east = neg_ℤ (pos m); north = b }) (r * r) ≡ false
way-west a b n m r first second = way-turn a (neg_ℤ (pos n)) b (neg_ℤ (pos m)) (r * r) ∙ way-south a b n m r first second
