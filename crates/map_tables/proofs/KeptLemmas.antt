-- Kept elements and their places.
use Rattle.std.proofs.Common.{◌≡◌, inl, ℕ, zero, suc, ◌+◌, ℤ, Bool, true, false, cond, List, [], ◌∷◌, ◌++◌, set, slice_get, Option, Some, None, Result, Ok, Err, OnOk, OnErr, IfErr, refl, sym, ap, ◌∙◌, subst, arith}
use Rattle.std.specs.Ordering.{int_eq}
use Rattle.map_tables.specs.Kept.{Tag, Kept, kept_with, given_again, with_tags, unless, keep_beside, keep, place_in, ids_of, place_of_id, AreDistinct, total_of}
use Rattle.map_tables.specs.Held.{Becomes}
use Rattle.map_tables.specs.declared.error.MapError.{MapError}
use Rattle.map_tables.specs.declared.error.MapError.TheVariants.{NoMemory}
use Rattle.map_tables.proofs.IdLemmas.{same_number, place_in-none, place_in-some}
use Rattle.map_tables.proofs.ListLemmas.{one_item}

module _ {C : Type 0} where
  -- an id that has no place isn't kept
  pub kept_with-none : (ks : List (Kept C)) (id : ℤ) → place_of_id id ks ≡ None → kept_with id ks ≡ None
  kept_with-none [] id none = refl
  kept_with-none (k ∷ ks) id none =
      let parts : (int_eq k.id id ≡ false) × (place_of_id id ks ≡ None) = place_in-none k.id (ids_of ks) id none in
      ap (λ b. cond b (Some k) (kept_with id ks)) parts.0 ∙ kept_with-none ks id parts.1

  -- an id is kept with what stands at its place
  pub kept_with-some : (ks : List (Kept C)) (id : ℤ) (i : ℕ) (at : Kept C) → place_of_id id ks ≡ Some i
      → slice_get ks i ≡ Some at
      → kept_with id ks ≡ Some at
  kept_with-some [] id i at found stands = absurd cc
  kept_with-some (k ∷ ks) id i at found stands =
      place_in-some k.id (ids_of ks) id i found
      (λ test first. ap (λ b. cond b (Some k) (kept_with id ks)) test ∙ ap (slice_get (k ∷ ks)) (sym first) ∙ stands)
      (λ j test rest later. ap (λ b. cond b (Some k) (kept_with id ks)) test
      ∙ kept_with-some ks id j at rest (ap (slice_get (k ∷ ks)) (sym later) ∙ stands))

  -- where an id isn't kept, nothing is given again
  pub with_tags-none : (ks : List (Kept C)) (id : ℤ) (tags : List Tag) → place_of_id id ks ≡ None
      → with_tags id tags ks ≡ ks
  with_tags-none [] id tags none = refl
  with_tags-none (k ∷ ks) id tags none =
      let parts : (int_eq k.id id ≡ false) × (place_of_id id ks ≡ None) = place_in-none k.id (ids_of ks) id none in
      ap (λ b. cond b (given_again tags k) k ∷ with_tags id tags ks) parts.0
      ∙ ap (λ rest. k ∷ rest) (with_tags-none ks id tags parts.1)

  -- where each id is kept once, one element is given again, at its place
  pub with_tags-some : (ks : List (Kept C)) (id : ℤ) (tags : List Tag) (i : ℕ) (at : Kept C) → AreDistinct ks
      → place_of_id id ks ≡ Some i
      → slice_get ks i ≡ Some at → with_tags id tags ks ≡ set ks i (given_again tags at)
  with_tags-some [] id tags i at apart found stands = absurd cc
  with_tags-some (k ∷ ks) id tags i at apart found stands =
      place_in-some k.id (ids_of ks) id i found
      (λ test first.
      let same : k ≡ at = some_same (ap (slice_get (k ∷ ks)) (sym first) ∙ stands) in
      ap (λ b. cond b (given_again tags k) k ∷ with_tags id tags ks) test
      ∙ ap (λ rest. given_again tags k ∷ rest)
      (with_tags-none ks id tags (ap (λ n. place_in n (ids_of ks)) (sym (same_number k.id id test)) ∙ apart.0))
      ∙ ap (λ x. given_again tags x ∷ ks) same
      ∙ ap (λ n. set (k ∷ ks) n (given_again tags at)) (sym first))
      (λ j test rest later. ap (λ b. cond b (given_again tags k) k ∷ with_tags id tags ks) test
      ∙ ap (λ more. k ∷ more) (with_tags-some ks id tags j at apart.1 rest
      (ap (slice_get (k ∷ ks)) (sym later) ∙ stands))
      ∙ ap (λ n. set (k ∷ ks) n (given_again tags at)) (sym later))
    where
      some_same : {x y : Kept C} → Some x ≡ Some y → x ≡ y
      some_same e = cc

  -- ---- What comes of one more element

  -- a new element goes last unless there are too many
  pub keep-new : {E : Type 0} (same : C → C → Bool) (double : E) (beyond o : Option E) (new : Kept C) (ks : List (Kept C))
      → place_of_id new.id ks ≡ None → beyond ≡ o → keep same double beyond new ks ≡ unless o (ks ++ new ∷ [])
  keep-new same double beyond o new ks none is =
      ap (keep_beside same double beyond new ks) (kept_with-none ks new.id none)
      ∙ ap (λ fault. unless fault (ks ++ new ∷ [])) is

  -- one that is there is given again, or is a double
  pub keep-old : {E : Type 0} (same : C → C → Bool) (double : E) (beyond : Option E) (new : Kept C) (ks : List (Kept C))
      (i : ℕ) (at : Kept C) (b : Bool)
      → AreDistinct ks → place_of_id new.id ks ≡ Some i → slice_get ks i ≡ Some at → same at.content new.content ≡ b
      → keep same double beyond new ks ≡ cond b (Ok (set ks i (given_again new.tags at))) (Err double)
  keep-old same double beyond new ks i at b apart found stands is =
      ap (keep_beside same double beyond new ks) (kept_with-some ks new.id i at found stands)
      ∙ ap (λ all. cond (same at.content new.content) (Ok all) (Err double))
      (with_tags-some ks new.id new.tags i at apart found stands)
      ∙ ap (λ test. cond test (Ok (set ks i (given_again new.tags at))) (Err double)) is

-- ---- What a call does

-- a call that gives the value of an answer, or reports want of memory, does what the answer says
pub Becomes-next : {A X : Type 0} (result : Result A MapError) (old new next : X) (answer : Result X MapError)
    → answer ≡ Ok next → OnOk result (new ≡ next) → IfErr result (λ e. (e ≡ NoMemory) × (new ≡ old))
    → Becomes result old new answer
Becomes-next (Ok done) old new next answer is value kept = is ∙ ap Ok (sym value)
Becomes-next {X = X} (Err e) old new next answer is value kept =
    (inl (kept.0, subst (λ (r : Result X MapError). OnErr r ⊥) (sym is) tt), kept.1)

-- what a call leaves has what it had where each answer has
pub Becomes-keeps : {A X : Type 0} (P : X → Type 0) (result : Result A MapError) (old new : X)
    (answer : Result X MapError)
    → Becomes result old new answer → P old → ((more : X) → answer ≡ Ok more → P more) → P new
Becomes-keeps P (Ok done) old new answer becomes was each = each new becomes
Becomes-keeps P (Err e) old new answer becomes was each = subst P (sym becomes.1) was

-- what stands at a place put there again changes nothing
pub set-same : {A : Type 0} (xs : List A) (i : ℕ) (x : A) → slice_get xs i ≡ Some x → set xs i x ≡ xs
set-same [] i x at = refl
set-same (y ∷ ys) zero x at = ap (λ z. z ∷ ys) (sym (one_item at))
set-same (y ∷ ys) (suc i) x at = ap (λ zs. y ∷ zs) (set-same ys i x at)

-- ---- Parts of elements

module _ {C : Type 0} (size : C → ℕ) where
  -- the parts of an element at the end are counted with the others
  pub total_of-append : (ks : List (Kept C)) (k : Kept C)
      → total_of size (ks ++ k ∷ []) ≡ total_of size ks + size k.content
  total_of-append [] k = omega arith
  total_of-append (x ∷ xs) k =
      let rest : total_of size (xs ++ k ∷ []) ≡ total_of size xs + size k.content = total_of-append xs k in
      omega (arith, rest)

  -- another element that consists of the same leaves their number
  pub total_of-set : (ks : List (Kept C)) (i : ℕ) (k new : Kept C) → slice_get ks i ≡ Some k → new.content ≡ k.content
      → total_of size (set ks i new) ≡ total_of size ks
  total_of-set [] i k new at same = absurd cc
  total_of-set (x ∷ xs) zero k new at same =
      ap (λ c. size c + total_of size xs) (same ∙ ap (λ (y : Kept C). y.content) (sym (one_item at)))
  total_of-set (x ∷ xs) (suc i) k new at same = ap (λ n. size x.content + n) (total_of-set xs i k new at same)

  -- and so does one that is given again
  pub total_of-with_tags : (id : ℤ) (tags : List Tag) (ks : List (Kept C))
      → total_of size (with_tags id tags ks) ≡ total_of size ks
  total_of-with_tags id tags [] = refl
  total_of-with_tags id tags (k ∷ ks) =
      by_test (int_eq k.id id) ∙ ap (λ n. size k.content + n) (total_of-with_tags id tags ks)
    where
      by_test : (b : Bool) → size (cond b (given_again tags k) k).content + total_of size (with_tags id tags ks)
          ≡ size k.content + total_of size (with_tags id tags ks)
      by_test true = refl
      by_test false = refl
