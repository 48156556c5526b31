-- Differences and sums of what two places are counted by, as they are computed in 64 bits.
use Rattle.std.proofs.Common.{◌≡◌, ◌≤◌, ◌*◌, ℕ, ℤ, pos, neg_ℤ, ◌≤ℤ◌, int_lt, false, Fits, w32, ◌+ℤ◌, ◌-ℤ◌, ◌*ℤ◌, int_div, unsigned_abs, SFits, w64, ap, ◌∙◌, rules, arith}
use Rattle.std.proofs.lemmas.Int.{ints, unsigned_abs-mul, fits_signed_from_abs, quot_fits}
use Rattle.geo_int.specs.Arrow.{north_between, north_part}
use Rattle.geo_int.specs.Spot.{place_of}
use Rattle.geo_int.specs.declared.spots.Spot.{Spot}
use Rattle.geo_int.proofs.CallerLemmas.{place_of-IsOnGlobe}
use Rattle.geo_int.proofs.ProductLemmas.{unsigned_abs-add, unsigned_abs-sub}
use Rattle.geo_int.proofs.QuotientLemmas.{unsigned_abs-int_div}

-- the latitude of a spot is within 90 degrees
pub latitude_le : (spot : Spot) (z : ℤ) → z ≡ (place_of spot).lat → unsigned_abs z ≤ 90000000
latitude_le spot z is = rw is (place_of-IsOnGlobe spot).latitude

-- the longitude of a spot is within 180 degrees
pub longitude_le : (spot : Spot) (z : ℤ) → z ≡ (place_of spot).lon → unsigned_abs z ≤ 180000000
longitude_le spot z is = rw is (place_of-IsOnGlobe spot).longitude

-- two numbers of degrees, their sum and their difference fit in a word
pub record PairFits (x y : ℤ) : Type 0 where
  pub first : SFits w64 x
  pub second : SFits w64 y
  pub sum : SFits w64 (x +ℤ y)
  pub difference : SFits w64 (x -ℤ y)
  pub difference_le : unsigned_abs (x -ℤ y) ≤ 360000000

-- where both are within 180 degrees
pub pair_fits : (x y : ℤ) → unsigned_abs x ≤ 180000000 → unsigned_abs y ≤ 180000000 → PairFits x y
pair_fits x y f g =
    let sum : unsigned_abs (x +ℤ y) ≤ 360000000 = omega (arith, unsigned_abs-add x y, f, g) in
    let difference : unsigned_abs (x -ℤ y) ≤ 360000000 = omega (arith, unsigned_abs-sub x y, f, g) in
    record {
      first = fits_signed_from_abs w64 _ (omega (arith, f));
      second = fits_signed_from_abs w64 _ (omega (arith, g));
      sum = fits_signed_from_abs w64 _ (omega (arith, sum));
      difference = fits_signed_from_abs w64 _ (omega (arith, difference));
      difference_le = difference;
    }

-- the millimetres of a difference in degrees
pub record NorthFits (x : ℤ) : Type 0 where
  pub product : SFits w64 (x *ℤ pos 11132)
  pub quotient : SFits w64 (int_div (x *ℤ pos 11132) (pos 100))
  pub within : unsigned_abs (int_div (x *ℤ pos 11132) (pos 100)) ≤ 50000000000

-- where it is within 360 degrees
pub north_fits : (x : ℤ) → unsigned_abs x ≤ 360000000 → NorthFits x
north_fits x f =
    let whole : unsigned_abs (x *ℤ pos 11132) ≡ unsigned_abs x * 11132 = unsigned_abs-mul x (pos 11132) in
    let most : unsigned_abs (x *ℤ pos 11132) ≤ 4007520000000 = omega (arith, whole, f) in
    let product : SFits w64 (x *ℤ pos 11132) = fits_signed_from_abs w64 _ (omega (arith, most)) in
    record {
      product = product;
      quotient = quot_fits w64 _ _ product (search rules);
      within = rw (unsigned_abs-int_div (x *ℤ pos 11132) 100) (omega (arith, most));
    }

-- what was computed step by step lies north
pub north-computed : (a b : Spot) (x y : ℤ) → x ≡ (place_of a).lat → y ≡ (place_of b).lat →
    int_div ((y -ℤ x) *ℤ pos 11132) (pos 100) ≡ north_between (place_of a) (place_of b)
unfolding north_between north_part
north-computed a b x y e f = ap (λ k. north_part (y -ℤ k)) e ∙ ap (λ k. north_part (k -ℤ (place_of a).lat)) f

-- degrees counted from the least that there are
pub record CountFits (x : ℤ) (half : ℕ) : Type 0 where
  pub sum : SFits w64 (x +ℤ pos half)
  pub count : Fits w32 (unsigned_abs (x +ℤ pos half))
  pub positive : pos 0 ≤ℤ (x +ℤ pos half)
  pub most : unsigned_abs (x +ℤ pos half) ≤ 2 * half

-- where they are within half of the circle
pub count_fits : (x low : ℤ) (half : ℕ) → half ≤ 180000000 → low ≡ neg_ℤ (pos half) → int_lt x low ≡ false → int_lt (pos half) x ≡ false →
    CountFits x half
count_fits x low half small is f g =
    let below : low ≤ℤ x = grind (arith, ints) in
    let above : x ≤ℤ pos half = grind (arith, ints) in
    let most : unsigned_abs (x +ℤ pos half) ≤ 2 * half = omega (arith, ints, is, below, above) in
    record {
      sum = fits_signed_from_abs w64 _ (omega (arith, most, small));
      count = record { fits = omega (arith, most, small) };
      positive = omega (arith, ints, is, below);
      most = most;
    }
