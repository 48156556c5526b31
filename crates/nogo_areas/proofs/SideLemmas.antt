-- What lies so far from a circle's centre in degrees lies beyond its radius.
use Rattle.std.proofs.Common.{◌≡◌, ℕ, zero, suc, ◌+◌, ◌-◌, ◌*◌, ◌/◌, ◌≤◌, ◌<◌, ◌&&◌, ℤ, pos, negsuc, neg_ℤ, ◌+ℤ◌, ◌-ℤ◌, ◌*ℤ◌, int_div, unsigned_abs, Bool, true, false, cond, nat_le, refl, ap, ◌∙◌, arith}
use Rattle.std.specs.Int.{int_div_euclid}
use Rattle.std.proofs.Math.IntN.{*ℤ_comm}
use Rattle.std.proofs.lemmas.Nat.{mul-le}
use Rattle.std.proofs.lemmas.Int.{ints, unsigned_abs-mul}
use Rattle.geo_int.specs.Place.{Place}
use Rattle.geo_int.specs.Spot.{place_of}
use Rattle.geo_int.specs.Cosine.{radians, squared, series_term, cosine_series, cosine_at}
use Rattle.geo_int.specs.Arrow.{north_part, east_part, north_between, east_between, middle_latitude}
use Rattle.geo_int.specs.Circle.{circle_touches, offsets_touch, offset_between, way_touches, is_near}
use Rattle.geo_int.specs.declared.spots.Spot.{Spot}
use Rattle.geo_int.proofs.QuotientLemmas.{unsigned_abs-int_div}
use Rattle.nogo_areas.specs.Sides.{narrow_cosine, IsBeyond}
use Rattle.nogo_areas.specs.declared.circle.Circle.{Circle}
use Rattle.nogo_areas.specs.declared.sides.Side.TheVariants.{South, North, West, East}
use Rattle.nogo_areas.proofs.MissLemmas.{mul-neg, way-north, way-south, way-west, way-east}

-- ---- The cosine

-- the narrow cosine written out
pub narrow_cosine-is : (lat : ℕ) → narrow_cosine lat ≡
    1000000000 - ((lat + 1350000) * 1745329252 / 100000000) * ((lat + 1350000) * 1745329252 / 100000000) / 1000000000 / 2
unfolding narrow_cosine squared radians
narrow_cosine-is lat = refl

-- a term of the series isn't below the same term with 1 behind it
pub term-least : (square behind : ℕ) → behind ≤ 1000000000 → 1000000000 - square / 2 ≤ 1000000000 - square * behind / 1000000000 / 2
term-least square behind most =
    let h : square * behind ≤ square * 1000000000 = mul-le square behind square 1000000000 (omega arith) most in
    omega (arith, h)

-- the series isn't below its first two terms
pub series-least : (square : ℕ) → 1000000000 - square / 2 ≤ cosine_series square
unfolding cosine_series series_term
series-least square = term-least square _ (omega arith)

-- the larger angle has the larger square
pub squared-grows : (a b : ℕ) → a ≤ b → squared (radians a) ≤ squared (radians b)
unfolding squared radians
squared-grows a b less =
    let angle : a * 1745329252 / 100000000 ≤ b * 1745329252 / 100000000 = omega arith in
    omega (
      arith,
      mul-le (a * 1745329252 / 100000000) (a * 1745329252 / 100000000) (b * 1745329252 / 100000000) (b * 1745329252 / 100000000)
          angle angle,
    )

-- the cosine near a latitude isn't below the narrow one
pub narrow-under : (lat : ℕ) (z : ℤ) → unsigned_abs z ≤ lat + 1350000 → narrow_cosine lat ≤ cosine_at z
unfolding narrow_cosine cosine_at
narrow-under lat z near =
    omega (arith, squared-grows (unsigned_abs z) (lat + 1350000) near, series-least (squared (radians (unsigned_abs z))))

-- ---- Parts by degrees

-- an opposite's product
pub neg-mul : (x y : ℤ) → neg_ℤ x *ℤ y ≡ neg_ℤ (x *ℤ y)
neg-mul x y = *ℤ_comm (neg_ℤ x) y ∙ mul-neg y x ∙ ap neg_ℤ (*ℤ_comm y x)

-- the millimetres north of a difference
pub north-plus : (d : ℕ) → north_part (pos d) ≡ pos (d * 11132 / 100)
unfolding north_part
north-plus d = refl

-- an opposite is divided by 100
hundredth-neg : (x : ℕ) → int_div (neg_ℤ (pos x)) (pos 100) ≡ neg_ℤ (pos (x / 100))
hundredth-neg zero = refl
hundredth-neg (suc x) = refl

-- an opposite is divided by 100,000,000,000
part-neg : (x : ℕ) → int_div (neg_ℤ (pos x)) (pos 100000000000) ≡ neg_ℤ (pos (x / 100000000000))
part-neg zero = refl
part-neg (suc x) = refl

-- the millimetres north of a difference to the south
pub north-minus : (d : ℕ) → north_part (neg_ℤ (pos d)) ≡ neg_ℤ (pos (d * 11132 / 100))
unfolding north_part
north-minus d = ap (λ k. int_div k (pos 100)) (neg-mul (pos d) (pos 11132)) ∙ hundredth-neg (d * 11132)

-- the millimetres east of a difference
pub east-plus : (d cosine : ℕ) → east_part (pos d) (pos cosine) ≡ pos (d * 11132 * cosine / 100000000000)
unfolding east_part
east-plus d cosine = refl

-- the millimetres east of a difference to the west
pub east-minus : (d cosine : ℕ) → east_part (neg_ℤ (pos d)) (pos cosine) ≡ neg_ℤ (pos (d * 11132 * cosine / 100000000000))
unfolding east_part
east-minus d cosine =
    ap (λ k. int_div (k *ℤ pos cosine) (pos 100000000000)) (neg-mul (pos d) (pos 11132))
    ∙ ap (λ k. int_div k (pos 100000000000)) (neg-mul (pos (d * 11132)) (pos cosine)) ∙ part-neg (d * 11132 * cosine)

-- ---- Latitudes near a centre

-- half of a number, rounded down
half-within : (z : ℤ) → 2 * unsigned_abs (int_div_euclid z (pos 2)) ≤ unsigned_abs z + 1
half-within (pos a) = omega arith
half-within (negsuc a) = omega arith

-- a difference of latitude whose part is near is at most so large
north-near : (z : ℤ) → unsigned_abs (north_part z) ≤ 300000000 → unsigned_abs z ≤ 2694935
unfolding north_part
north-near z near =
    let e : unsigned_abs (int_div (z *ℤ pos 11132) (pos 100)) ≡ unsigned_abs (z *ℤ pos 11132) / 100 =
    unsigned_abs-int_div (z *ℤ pos 11132) 100 in
    let f : unsigned_abs (z *ℤ pos 11132) ≡ unsigned_abs z * 11132 = unsigned_abs-mul z (pos 11132) in
    omega (arith, e, f)

-- the latitude halfway to a place whose part to the north is near
pub middle-near : (centre at : Place) → unsigned_abs (north_between centre at) ≤ 300000000 →
    unsigned_abs (middle_latitude centre at) ≤ unsigned_abs centre.lat + 1350000
unfolding north_between middle_latitude
middle-near centre at near =
    omega (arith, ints, half-within (centre.lat +ℤ at.lat), north-near (at.lat -ℤ centre.lat) near)

-- ---- Ways beyond a circle

-- a gate lets nothing through where its tests say that nothing comes
gate-none : (s t x : Bool) → (s ≡ true → t ≡ true → x ≡ false) → cond (s && t) x false ≡ false
gate-none true true x h = h refl refl
gate-none true false x h = refl
gate-none false true x h = refl
gate-none false false x h = refl

-- the second of two tests that both hold
second-holds : (m n k : ℕ) → (nat_le m k && nat_le n k) ≡ true → n ≤ k
second-holds m n k e = grind arith

-- whether the way between two places is touched, seen from a circle's centre
abbrev touched_from : (centre a b : Place) (r : ℕ) → Bool
touched_from centre a b r =
    way_touches (record { east = east_between centre a; north = north_between centre a })
    (record { east = east_between centre b; north = north_between centre b }) (r * r)

-- only ways whose ends are near have to be looked at
pub near_only : (a b centre : Place) (r : ℕ) →
    (unsigned_abs (north_between centre a) ≤ 300000000 → unsigned_abs (north_between centre b) ≤ 300000000 →
    touched_from centre a b r ≡ false) →
    circle_touches a b centre r ≡ false
unfolding circle_touches offsets_touch offset_between
near_only a b centre r h =
    gate-none (is_near (record { east = east_between centre a; north = north_between centre a }))
    (is_near (record { east = east_between centre b; north = north_between centre b })) (touched_from centre a b r)
    (λ e f. h (second-holds (unsigned_abs (east_between centre a)) (unsigned_abs (north_between centre a)) 300000000 e)
    (second-holds (unsigned_abs (east_between centre b)) (unsigned_abs (north_between centre b)) 300000000 f))

-- no way is touched whose ends lie beyond the radius to the north
pub north-untouched : (a b centre : Place) (r n m : ℕ) → north_between centre a ≡ pos n → north_between centre b ≡ pos m → r < n → r < m →
    circle_touches a b centre r ≡ false
north-untouched a b centre r n m e f first second = near_only a b centre r (λ _ _.
    ap (λ k. way_touches (record { east = east_between centre a; north = k })
    (record { east = east_between centre b; north = north_between centre b }) (r * r)) e
    ∙ ap (λ k. way_touches (record { east = east_between centre a; north = pos n }) (record { east = east_between centre b; north = k })
    (r * r)) f
    ∙ way-north (east_between centre a) (east_between centre b) n m r first second)

-- nor one whose ends lie beyond it to the south
pub south-untouched : (a b centre : Place) (r n m : ℕ) → north_between centre a ≡ neg_ℤ (pos n) → north_between centre b ≡ neg_ℤ (pos m) →
    r < n → r < m →
    circle_touches a b centre r ≡ false
south-untouched a b centre r n m e f first second = near_only a b centre r (λ _ _.
    ap (λ k. way_touches (record { east = east_between centre a; north = k })
    (record { east = east_between centre b; north = north_between centre b }) (r * r)) e
    ∙ ap (λ k. way_touches (record { east = east_between centre a; north = neg_ℤ (pos n) })
    (record { east = east_between centre b; north = k }) (r * r)) f
    ∙ way-south (east_between centre a) (east_between centre b) n m r first second)

-- nor one whose ends, where they are near, lie beyond it to the east
pub east-untouched : (a b centre : Place) (r n m : ℕ) → east_between centre a ≡ pos n → east_between centre b ≡ pos m →
    (unsigned_abs (north_between centre a) ≤ 300000000 → r < n) → (unsigned_abs (north_between centre b) ≤ 300000000 → r < m) →
    circle_touches a b centre r ≡ false
east-untouched a b centre r n m e f first second = near_only a b centre r (λ near_a near_b.
    ap (λ k. way_touches (record { east = k; north = north_between centre a })
    (record { east = east_between centre b; north = north_between centre b }) (r * r)) e
    ∙ ap (λ k. way_touches (record { east = pos n; north = north_between centre a }) (record { east = k; north = north_between centre b })
    (r * r)) f
    ∙ way-east (north_between centre a) (north_between centre b) n m r (first near_a) (second near_b))

-- nor one whose ends, where they are near, lie beyond it to the west
pub west-untouched : (a b centre : Place) (r n m : ℕ) → east_between centre a ≡ neg_ℤ (pos n) → east_between centre b ≡ neg_ℤ (pos m) →
    (unsigned_abs (north_between centre a) ≤ 300000000 → r < n) → (unsigned_abs (north_between centre b) ≤ 300000000 → r < m) →
    circle_touches a b centre r ≡ false
west-untouched a b centre r n m e f first second = near_only a b centre r (λ near_a near_b.
    ap (λ k. way_touches (record { east = k; north = north_between centre a })
    (record { east = east_between centre b; north = north_between centre b }) (r * r)) e
    ∙ ap (λ k. way_touches (record { east = neg_ℤ (pos n); north = north_between centre a })
    (record { east = k; north = north_between centre b }) (r * r)) f
    ∙ way-west (north_between centre a) (north_between centre b) n m r (first near_a) (second near_b))

-- ---- Sides

-- what lies higher is that many millimetres to the north
north-between : (a centre : Spot) → centre.ilat ≤ a.ilat →
    north_between (place_of centre) (place_of a) ≡ pos ((a.ilat - centre.ilat) * 11132 / 100)
unfolding north_between
north-between a centre less =
    let e : (place_of a).lat -ℤ (place_of centre).lat ≡ pos (a.ilat - centre.ilat) = omega (arith, ints) in
    ap north_part e ∙ north-plus (a.ilat - centre.ilat)

-- what lies lower is that many millimetres to the south
south-between : (a centre : Spot) → a.ilat ≤ centre.ilat →
    north_between (place_of centre) (place_of a) ≡ neg_ℤ (pos ((centre.ilat - a.ilat) * 11132 / 100))
unfolding north_between
south-between a centre less =
    let e : (place_of a).lat -ℤ (place_of centre).lat ≡ neg_ℤ (pos (centre.ilat - a.ilat)) = omega (arith, ints) in
    ap north_part e ∙ north-minus (centre.ilat - a.ilat)

-- what lies farther on is that many millimetres to the east
east-between : (a centre : Spot) → centre.ilon ≤ a.ilon → east_between (place_of centre) (place_of a) ≡
    pos ((a.ilon - centre.ilon) * 11132 * cosine_at (middle_latitude (place_of centre) (place_of a)) / 100000000000)
unfolding east_between
east-between a centre less =
    let e : (place_of a).lon -ℤ (place_of centre).lon ≡ pos (a.ilon - centre.ilon) = omega (arith, ints) in
    ap (λ k. east_part k (pos (cosine_at (middle_latitude (place_of centre) (place_of a))))) e ∙ east-plus (a.ilon - centre.ilon) _

-- what lies farther back is that many millimetres to the west
west-between : (a centre : Spot) → a.ilon ≤ centre.ilon → east_between (place_of centre) (place_of a) ≡
    neg_ℤ (pos ((centre.ilon - a.ilon) * 11132 * cosine_at (middle_latitude (place_of centre) (place_of a)) / 100000000000))
unfolding east_between
west-between a centre less =
    let e : (place_of a).lon -ℤ (place_of centre).lon ≡ neg_ℤ (pos (centre.ilon - a.ilon)) = omega (arith, ints) in
    ap (λ k. east_part k (pos (cosine_at (middle_latitude (place_of centre) (place_of a))))) e ∙ east-minus (centre.ilon - a.ilon) _

-- a way to the south of all that a circle reaches
pub beyond-south : (circle : Circle) (reach distance : ℕ) → ((d : ℕ) → reach < d → circle.radius < d * 11132 / 100) →
    distance + reach < circle.centre.ilat → IsBeyond South circle distance
beyond-south circle reach distance farther less = record {
  untouched = λ a b ha hb.
      south-untouched (place_of a) (place_of b) (place_of circle.centre) circle.radius _ _
      (south-between a circle.centre (omega arith)) (south-between b circle.centre (omega arith))
      (farther (circle.centre.ilat - a.ilat) (omega arith)) (farther (circle.centre.ilat - b.ilat) (omega arith));
}

-- a way to the north of all that a circle reaches
pub beyond-north : (circle : Circle) (reach distance : ℕ) → ((d : ℕ) → reach < d → circle.radius < d * 11132 / 100) →
    distance + reach < 180000000 - circle.centre.ilat → IsBeyond North circle distance
beyond-north circle reach distance farther less = record {
  untouched = λ a b ha hb.
      north-untouched (place_of a) (place_of b) (place_of circle.centre) circle.radius _ _
      (north-between a circle.centre (omega arith)) (north-between b circle.centre (omega arith))
      (farther (a.ilat - circle.centre.ilat) (omega arith)) (farther (b.ilat - circle.centre.ilat) (omega arith));
}

-- a way to the west of all that a circle reaches
pub beyond-west : (circle : Circle) (reach distance : ℕ) →
    ((d cosine : ℕ) → reach < d → d ≤ 360000000 → narrow_cosine (unsigned_abs (place_of circle.centre).lat) ≤ cosine →
    circle.radius < d * 11132 * cosine / 100000000000) → distance + reach < circle.centre.ilon → IsBeyond West circle distance
beyond-west circle reach distance farther less = record {
  untouched = λ a b ha hb.
      west-untouched (place_of a) (place_of b) (place_of circle.centre) circle.radius _ _
      (west-between a circle.centre (omega arith)) (west-between b circle.centre (omega arith))
      (λ near. farther (circle.centre.ilon - a.ilon) _ (omega arith) (omega arith)
      (narrow-under _ _ (middle-near (place_of circle.centre) (place_of a) near)))
      (λ near. farther (circle.centre.ilon - b.ilon) _ (omega arith) (omega arith)
      (narrow-under _ _ (middle-near (place_of circle.centre) (place_of b) near)));
}

-- a way to the east of all that a circle reaches
pub beyond-east : (circle : Circle) (reach distance : ℕ) →
    ((d cosine : ℕ) → reach < d → d ≤ 360000000 → narrow_cosine (unsigned_abs (place_of circle.centre).lat) ≤ cosine →
    circle.radius < d * 11132 * cosine / 100000000000) → distance + reach < 360000000 - circle.centre.ilon → IsBeyond East circle distance
beyond-east circle reach distance farther less = record {
  untouched = λ a b ha hb.
      east-untouched (place_of a) (place_of b) (place_of circle.centre) circle.radius _ _
      (east-between a circle.centre (omega arith)) (east-between b circle.centre (omega arith))
      (λ near. farther (a.ilon - circle.centre.ilon) _ (omega arith) (omega arith)
      (narrow-under _ _ (middle-near (place_of circle.centre) (place_of a) near)))
      (λ near. farther (b.ilon - circle.centre.ilon) _ (omega arith) (omega arith)
      (narrow-under _ _ (middle-near (place_of circle.centre) (place_of b) near)));
}
