-- Ids in lists.
use Rattle.std.proofs.Common.{◌≡◌, ◌≢◌, ◌⊎◌, ◌==◌, ℕ, Bool, true, false, cond, not, List, [], ◌∷◌, ◌++◌, inl, inr, refl, sym, ◌∙◌, ap, eq-eqb, eqb-true}
use Rattle.std.proofs.lemmas.Bool.{false≢true}
use Rattle.std.specs.List.{filter}
use Rattle.hall.specs.Held.{AreDifferent, IsAmong}
use Rattle.hall.specs.State.{without}

-- an id that is among two lists is among one of them
pub among_split : (id : ℕ) (xs ys : List ℕ) → IsAmong id (xs ++ ys) → IsAmong id xs ⊎ IsAmong id ys
among_split id [] ys is = inr is
among_split id (x ∷ xs) ys (inl same) = inl (inl same)
among_split id (x ∷ xs) ys (inr later) = elim (among_split id xs ys later) [ inl first ↦ inl (inr first) | inr second ↦ inr second ]

-- and one that is among one of them is among both
pub among_first : (id : ℕ) (xs ys : List ℕ) → IsAmong id xs → IsAmong id (xs ++ ys)
among_first id [] ys is = absurd is
among_first id (x ∷ xs) ys (inl same) = inl same
among_first id (x ∷ xs) ys (inr later) = inr (among_first id xs ys later)

pub among_last : (id : ℕ) (xs ys : List ℕ) → IsAmong id ys → IsAmong id (xs ++ ys)
among_last id [] ys is = is
among_last id (x ∷ xs) ys is = inr (among_last id xs ys is)

-- the last of different ids isn't among the others
pub different_split : (ids : List ℕ) (id : ℕ) → AreDifferent (ids ++ id ∷ []) → AreDifferent ids × (IsAmong id ids → ⊥)
different_split [] id all = (tt, λ h. h)
different_split (x ∷ ids) id all =
    let rest = different_split ids id all.1 in (
      (λ h. all.0 (among_first x ids (id ∷ []) h), rest.0),
      λ h. elim h [ inl same ↦ all.0 (among_last x ids (id ∷ []) (inl (sym same))) | inr later ↦ rest.1 later ],
    )

-- one more id
pub different_last : (ids : List ℕ) (id : ℕ) → AreDifferent ids → (IsAmong id ids → ⊥) → AreDifferent (ids ++ id ∷ [])
different_last [] id all none = ((λ h. h), tt)
different_last (x ∷ ids) id all none = (
  (λ h. elim (among_split x ids (id ∷ []) h) [
    | inl first ↦ all.0 first
    | inr (inl same) ↦ none (inl (sym same))
    | inr (inr never) ↦ never
  ]),
  different_last ids id all.1 (λ h. none (inr h)),
)

-- ---- without one

among_test : (id j x : ℕ) (ids : List ℕ) (b : Bool) → (x == id) ≡ b → (IsAmong j (without id ids) → (j ≢ id) × IsAmong j ids) →
    IsAmong j (cond b (without id ids) (x ∷ without id ids)) → (j ≢ id) × IsAmong j (x ∷ ids)
among_test id j x ids true same rest is = let before = rest is in (before.0, inr before.1)
among_test id j x ids false other rest (inl here) = ((λ same. false≢true (sym other ∙ eq-eqb x id (here ∙ same))), inl here)
among_test id j x ids false other rest (inr later) = let before = rest later in (before.0, inr before.1)

-- an id that is among the others was among all, and is another
pub among_without : (id j : ℕ) (ids : List ℕ) → IsAmong j (without id ids) → (j ≢ id) × IsAmong j ids
among_without id j [] is = absurd is
among_without id j (x ∷ ids) is = among_test id j x ids (x == id) refl (among_without id j ids) is

different_test : (id x : ℕ) (ids : List ℕ) (b : Bool) → (IsAmong x ids → ⊥) → AreDifferent (without id ids) →
    AreDifferent (cond b (without id ids) (x ∷ without id ids))
different_test id x ids true none rest = rest
different_test id x ids false none rest = ((λ h. none (among_without id x ids h).1), rest)

-- the others are different too
pub different_without : (id : ℕ) (ids : List ℕ) → AreDifferent ids → AreDifferent (without id ids)
different_without id [] all = tt
different_without id (x ∷ ids) all = different_test id x ids (x == id) all.0 (different_without id ids all.1)

kept_test : (id j x : ℕ) (ids : List ℕ) (b : Bool) → (x == id) ≡ b → j ≢ id → (IsAmong j ids → IsAmong j (without id ids)) →
    IsAmong j (x ∷ ids) →
    IsAmong j (cond b (without id ids) (x ∷ without id ids))
kept_test id j x ids true is ne rest (inl here) = absurd (ne (sym here ∙ eqb-true x id is))
kept_test id j x ids true is ne rest (inr later) = rest later
kept_test id j x ids false is ne rest (inl here) = inl here
kept_test id j x ids false is ne rest (inr later) = inr (rest later)

-- another id stays
pub among_kept : (id j : ℕ) (ids : List ℕ) → j ≢ id → IsAmong j ids → IsAmong j (without id ids)
among_kept id j [] ne among = among
among_kept id j (x ∷ ids) ne among = kept_test id j x ids (x == id) refl ne (among_kept id j ids ne) among

none_test : (id x : ℕ) (ids : List ℕ) (b : Bool) → (x == id) ≡ b → x ≢ id → without id ids ≡ ids →
    cond b (without id ids) (x ∷ without id ids) ≡ x ∷ ids
none_test id x ids true is ne rest = absurd (ne (eqb-true x id is))
none_test id x ids false is ne rest = ap (λ (l : List ℕ). x ∷ l) rest

-- where it isn't there, nothing is left out
pub without_none : (id : ℕ) (ids : List ℕ) → (IsAmong id ids → ⊥) → without id ids ≡ ids
without_none id [] none = refl
without_none id (x ∷ ids) none = none_test id x ids (x == id) refl (λ e. none (inl e)) (without_none id ids (λ h. none (inr h)))

-- the others are those that a test for another id keeps
pub filter_without : (id : ℕ) (ids : List ℕ) → filter (λ (j : ℕ). not (j == id)) ids ≡ without id ids
filter_without id [] = refl
filter_without id (x ∷ ids) =
    elim (x == id) as (λ b. cond (not b) (x ∷ filter (λ (j : ℕ). not (j == id)) ids) (filter (λ (j : ℕ). not (j == id)) ids)
    ≡ cond b (without id ids) (x ∷ without id ids)) [
      | true ↦ filter_without id ids
      | false ↦ ap (λ (rest : List ℕ). x ∷ rest) (filter_without id ids)
    ]
