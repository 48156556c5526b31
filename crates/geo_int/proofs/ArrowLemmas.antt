-- When there is an arrow between two places.
use Rattle.std.proofs.Common.{◌≡◌, ℕ, ◌<◌, ◌≤◌, ℤ, nat_le, cond, Option, Some, None, sym, ap, ◌∙◌, arith, FitsSigned, w64, to_z, of_z}
use Rattle.std.proofs.lemmas.Int.{to_z-of_z}
use Rattle.std.proofs.lemmas.Bool.Decides.{nat_tests}
use Rattle.geo_int.specs.Place.{Place}
use Rattle.geo_int.specs.Arrow.{arrow_between, arrow_of, length_between, east_between, north_between, IsArrow}
use Rattle.geo_int.specs.declared.offsets.Arrow.{Arrow}

-- the arrow of the parts between two places has the length between them
pub length_between-is : (a b : Place) (found : Arrow) → found ≡ arrow_of (east_between a b) (north_between a b) →
    found.len ≡ length_between a b
unfolding length_between
length_between-is a b found is = cc

-- a choice by a test of order, where the test fails
chosen_none : (X : Type 0) (m n : ℕ) (found : Option X) → n < m → cond (nat_le m n) found None ≡ None
chosen_none X m n found h = grind (arith, nat_tests)

-- a choice by a test of order, where the test holds
chosen_some : (X : Type 0) (m n : ℕ) (found : Option X) → m ≤ n → cond (nat_le m n) found None ≡ found
chosen_some X m n found h = grind (arith, nat_tests)

-- there is none where the length is above the limit
pub arrow_between-long : (a b : Place) → 100000000 < length_between a b → None ≡ arrow_between a b
unfolding arrow_between
arrow_between-long a b long = sym (chosen_none Arrow (length_between a b) 100000000 _ long)

-- it is the arrow of the parts where the length is within the limit
pub arrow_between-short : (a b : Place) (found : Arrow) → found ≡ arrow_of (east_between a b) (north_between a b) →
    length_between a b ≤ 100000000 → Some found ≡ arrow_between a b
unfolding arrow_between
arrow_between-short a b found is short = ap Some is ∙ sym (chosen_some Arrow (length_between a b) 100000000 _ short)

-- an arrow of two parts that is short is an arrow between places
pub arrow_of-IsArrow : (found : Arrow) (east north : ℤ) → found ≡ arrow_of east north → found.len ≤ 100000000 → IsArrow found
arrow_of-IsArrow found east north is short = record { rooted = cc; short = short }

-- what was measured over the parts between two places is the arrow of those parts
pub measured_between : (a b : Place) (east north : ℤ) (found : Arrow) → FitsSigned w64 east → FitsSigned w64 north →
    east ≡ east_between a b → north ≡ north_between a b → found ≡ arrow_of (to_z w64 (of_z w64 east)) (to_z w64 (of_z w64 north)) →
    found ≡ arrow_of (east_between a b) (north_between a b)
measured_between a b east north found f g e n is =
    let plain : found ≡ arrow_of east north = simp to_z-of_z at is in
    plain ∙ ap (λ x. arrow_of x north) e ∙ ap (arrow_of (east_between a b)) n
