-- An arrow from one place to another is there where one is there the other way round.
use Rattle.std.proofs.Common.{◌≡◌, ℤ, pos, ◌-ℤ◌, ◌*ℤ◌, ◌*◌, ◌/◌, unsigned_abs, nat_le, cond, Bool, true, false, Some, None, is_some, refl, sym, ap, ◌∙◌, arith}
use Rattle.std.specs.Int.{int_div_euclid}
use Rattle.std.proofs.Math.IntN.{+ℤ_comm}
use Rattle.std.proofs.lemmas.Int.{ints, unsigned_abs-mul}
use Rattle.geo_int.specs.Place.{Place}
use Rattle.geo_int.specs.Cosine.{cosine_at}
use Rattle.geo_int.specs.Root.{whole_root}
use Rattle.geo_int.specs.Arrow.{north_part, east_part, middle_latitude, north_between, east_between, square_sum, length_of, length_between, arrow_between}
use Rattle.geo_int.proofs.SquareLemmas.{square_sum-is}
use Rattle.geo_int.proofs.QuotientLemmas.{unsigned_abs-int_div, east_product}

-- two numbers are as far apart the other way round
turned-sub : (x y : ℤ) → unsigned_abs (y -ℤ x) ≡ unsigned_abs (x -ℤ y)
turned-sub x y = omega (arith, ints)

-- a part north has a magnitude by that of the difference
north-size : (degrees : ℤ) → unsigned_abs (north_part degrees) ≡ unsigned_abs degrees * 11132 / 100
unfolding north_part
north-size degrees = unsigned_abs-int_div (degrees *ℤ pos 11132) 100 ∙ ap (λ n. n / 100) (unsigned_abs-mul degrees (pos 11132))

-- a part east has a magnitude by those of the difference and of the cosine
east-size : (degrees cosine : ℤ) →
    unsigned_abs (east_part degrees cosine) ≡ unsigned_abs degrees * 11132 * unsigned_abs cosine / 100000000000
unfolding east_part
east-size degrees cosine =
    unsigned_abs-int_div (degrees *ℤ pos 11132 *ℤ cosine) 100000000000 ∙ ap (λ n. n / 100000000000) (east_product degrees cosine)

-- the latitude halfway is the same the other way round
middle-turned : (a b : Place) → middle_latitude a b ≡ middle_latitude b a
unfolding middle_latitude
middle-turned a b = ap (λ z. int_div_euclid z (pos 2)) (+ℤ_comm a.lat b.lat)

-- the part north is as long the other way round
north-turned : (a b : Place) → unsigned_abs (north_between a b) ≡ unsigned_abs (north_between b a)
unfolding north_between
north-turned a b =
    north-size (b.lat -ℤ a.lat) ∙ ap (λ n. n * 11132 / 100) (turned-sub a.lat b.lat) ∙ sym (north-size (a.lat -ℤ b.lat))

-- the part east is as long the other way round
east-turned : (a b : Place) → unsigned_abs (east_between a b) ≡ unsigned_abs (east_between b a)
unfolding east_between
east-turned a b =
    ap (λ (m : ℤ). unsigned_abs (east_part (b.lon -ℤ a.lon) (pos (cosine_at m)))) (middle-turned a b)
    ∙ east-size (b.lon -ℤ a.lon) (pos (cosine_at (middle_latitude b a)))
    ∙ ap (λ n. n * 11132 * cosine_at (middle_latitude b a) / 100000000000) (turned-sub a.lon b.lon)
    ∙ sym (east-size (a.lon -ℤ b.lon) (pos (cosine_at (middle_latitude b a))))

-- parts of the same magnitudes make an arrow of one length
length-same : (e n f m : ℤ) → unsigned_abs e ≡ unsigned_abs f → unsigned_abs n ≡ unsigned_abs m → length_of e n ≡ length_of f m
unfolding length_of
length-same e n f m east north =
    let sum : square_sum e n ≡ square_sum f m = rw (square_sum-is e n, square_sum-is f m, east, north) refl in
    ap whole_root sum

-- an arrow is as long the other way round
pub length-turned : (a b : Place) → length_between a b ≡ length_between b a
unfolding length_between
length-turned a b =
    length-same (east_between a b) (north_between a b) (east_between b a) (north_between b a) (east-turned a b) (north-turned a b)

-- a choice is there by its test alone
chosen-there : {X : Type 0} (t : Bool) (x : X) → is_some (cond t (Some x) None) ≡ t
chosen-there true x = refl
chosen-there false x = refl

-- an arrow is there by its length
arrow-there : (a b : Place) → is_some (arrow_between a b) ≡ nat_le (length_between a b) 100000000
unfolding arrow_between
arrow-there a b = chosen-there (nat_le (length_between a b) 100000000) _

-- there is an arrow where there is one the other way round
pub arrow-turned : (a b : Place) → is_some (arrow_between a b) ≡ is_some (arrow_between b a)
arrow-turned a b =
    arrow-there a b ∙ ap (λ n. nat_le n 100000000) (length-turned a b) ∙ sym (arrow-there b a)
