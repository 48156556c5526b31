-- How many ids stand before one at most.
use Rattle.std.proofs.Common.{◌≡◌, ◌≢◌, ◌⊎◌, ◌==◌, ◌≤◌, ℕ, zero, suc, Bool, true, false, cond, List, [], ◌∷◌, ◌++◌, length, inl, inr, refl, sym, ◌∙◌, arith, eqb-true}
use Rattle.hall.specs.Held.{IsAmong}
use Rattle.hall.specs.State.{without}

-- an id is among the first so many of these
abbrev pub IsAmongFirst : ℕ → ℕ → List ℕ → Type 0
IsAmongFirst id zero ids = ⊥
IsAmongFirst id (suc n) [] = ⊥
IsAmongFirst id (suc n) (j ∷ ids) = (j ≡ id) ⊎ IsAmongFirst id n ids

-- it is among so many first as all are
pub first_all : (id n : ℕ) (ids : List ℕ) → IsAmong id ids → length ids ≤ n → IsAmongFirst id n ids
first_all id n [] is few = absurd is
first_all id zero (j ∷ ids) is few = absurd (omega (arith, few))
first_all id (suc n) (j ∷ ids) (inl same) few = inl same
first_all id (suc n) (j ∷ ids) (inr later) few = inr (first_all id n ids later (omega (arith, few)))

-- where more ids come last
pub first_more : (id n : ℕ) (xs ys : List ℕ) → IsAmongFirst id n xs → IsAmongFirst id n (xs ++ ys)
first_more id zero xs ys is = absurd is
first_more id (suc n) [] ys is = absurd is
first_more id (suc n) (x ∷ xs) ys (inl same) = inl same
first_more id (suc n) (x ∷ xs) ys (inr later) = inr (first_more id n xs ys later)

-- and among one more
first_next : (id n : ℕ) (ids : List ℕ) → IsAmongFirst id n ids → IsAmongFirst id (suc n) ids
first_next id zero ids is = absurd is
first_next id (suc n) [] is = absurd is
first_next id (suc n) (j ∷ ids) (inl same) = inl same
first_next id (suc n) (j ∷ ids) (inr later) = inr (first_next id n ids later)

without_test : (gone id n x : ℕ) (ids : List ℕ) (b : Bool) → (x == gone) ≡ b → id ≢ gone →
    (IsAmongFirst id n ids → IsAmongFirst id n (without gone ids)) → IsAmongFirst id (suc n) (x ∷ ids) →
    IsAmongFirst id (suc n) (cond b (without gone ids) (x ∷ without gone ids))
without_test gone id n x ids true is ne rest (inl here) = absurd (ne (sym here ∙ eqb-true x gone is))
without_test gone id n x ids true is ne rest (inr later) = first_next id n (without gone ids) (rest later)
without_test gone id n x ids false is ne rest (inl here) = inl here
without_test gone id n x ids false is ne rest (inr later) = inr (rest later)

-- where another one leaves
pub first_without : (gone id n : ℕ) (ids : List ℕ) → id ≢ gone → IsAmongFirst id n ids → IsAmongFirst id n (without gone ids)
first_without gone id zero ids ne is = absurd is
first_without gone id (suc n) [] ne is = absurd is
first_without gone id (suc n) (x ∷ ids) ne is =
    without_test gone id n x ids (x == gone) refl ne (first_without gone id n ids ne) is
