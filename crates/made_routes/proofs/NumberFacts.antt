-- What is known of each number of a list.
use Rattle.std.proofs.Common.{◌≡◌, ℕ, zero, suc, ◌+◌, ◌*◌, ◌<◌, Bool, true, false, cond, List, [], ◌∷◌, filter, refl, arith}
use Rattle.std.specs.List.{range_with_len}
use Rattle.grid_map.specs.declared.plan.Plan.{Plan}
use Rattle.grid_map.specs.Plan.{cells_of, is_there}
use Rattle.grid_map.specs.Segments.{numbers_of}
use Rattle.grid_map.proofs.NumberLemmas.{IsNumber}

-- a fact of each
abbrev pub AllOf : (ℕ → Type 0) → List ℕ → Type 0
AllOf P [] = Unit {0}
AllOf P (x ∷ xs) = P x × AllOf P xs

-- what follows from it holds of each
pub all-map : (P Q : ℕ → Type 0) → ((x : ℕ) → P x → Q x) → (xs : List ℕ) → AllOf P xs → AllOf Q xs
all-map P Q to [] all = tt
all-map P Q to (x ∷ xs) all = (to x all.0, all-map P Q to xs all.1)

-- the numbers of a range are below its end
pub range-below : (a n most : ℕ) → a + n ≡ most → AllOf (λ x. x < most) (range_with_len a n)
range-below a zero most is = tt
range-below a (suc n) most is = (omega (arith, is), range-below (a + 1) n most (omega (arith, is)))

-- those of them that pass a test have passed it
pub filter-all : (p : ℕ → Bool) (most : ℕ) (xs : List ℕ) → AllOf (λ x. x < most) xs → AllOf (λ x. (x < most) × (p x ≡ true)) (filter p xs)
filter-all p most [] all = tt
filter-all p most (x ∷ xs) all = by_test (p x) refl (filter-all p most xs all.1)
  where
    by_test : (b : Bool) → p x ≡ b → AllOf (λ x. (x < most) × (p x ≡ true)) (filter p xs) →
        AllOf (λ x. (x < most) × (p x ≡ true)) (cond b (x ∷ filter p xs) (filter p xs))
    by_test true is rest = ((all.0, is), rest)
    by_test false is rest = rest

-- the numbers of a grid's segments are numbers of segments that are there
pub numbers-there : (plan : Plan) → AllOf (IsNumber plan) (numbers_of plan)
numbers-there plan =
    all-map (λ x. (x < 2 * cells_of plan) × (is_there plan x ≡ true)) (IsNumber plan)
    (λ x is. record { below = is.0; there = is.1 }) (numbers_of plan)
    (filter-all (is_there plan) (2 * cells_of plan) (range_with_len 0 (2 * cells_of plan))
    (range-below 0 (2 * cells_of plan) (2 * cells_of plan) (omega arith)))
