-- Places of ids.
use Rattle.std.proofs.Common.{◌≡◌, ℕ, zero, suc, ℤ, Bool, true, false, cond, List, [], ◌∷◌, ◌++◌, position, slice_get, Option, Some, None, option_map, refl, sym, ap, ◌∙◌}
use Rattle.std.proofs.lemmas.Bool.Decides.{Decides-int_eq, same_from_decides}
use Rattle.std.specs.List.{AllByRecursion, IsDistinct}
use Rattle.std.specs.Map.{keys_of}
use Rattle.std.specs.Ordering.{int_eq}
use Rattle.indexmap.specs.IndexMap.{insert_entry}
use Rattle.item_list.proofs.TestLemmas.{position-step}
use Rattle.map_tables.specs.Kept.{place_in, AreDifferent}

-- ---- Numbers

-- the order of two numbers is free
pub int_eq-turned : (x y : ℤ) → int_eq x y ≡ int_eq y x
int_eq-turned x y =
    same_from_decides (int_eq x y) (int_eq y x) (Decides-int_eq x y)
    ((λ test. sym ((Decides-int_eq y x).0 test)), (λ same. (Decides-int_eq y x).1 (sym same)))

-- a number is itself
pub int_eq-refl : (x : ℤ) → int_eq x x ≡ true
int_eq-refl x = (Decides-int_eq x x).1 refl

-- a test that two numbers are one says so
pub same_number : (x y : ℤ) → int_eq x y ≡ true → x ≡ y
same_number x y test = (Decides-int_eq x y).0 test

-- ---- Places

-- an id that isn't in a list is neither its first nor in the rest
pub place_in-none : (x : ℤ) (xs : List ℤ) (id : ℤ) → place_in id (x ∷ xs) ≡ None
    → (int_eq x id ≡ false) × (place_in id xs ≡ None)
place_in-none x xs id none = by_test (int_eq x id) (place_in id xs) refl refl none
  where
    by_test : (b : Bool) (o : Option ℕ) → int_eq x id ≡ b → place_in id xs ≡ o
        → cond b (Some 0) (option_map suc o) ≡ None
        → (int_eq x id ≡ false) × (place_in id xs ≡ None)
    by_test true o test rest none = cc
    by_test false None test rest none = (test, rest)
    by_test false (Some i) test rest none = cc

-- an id that is in a list is its first, or in the rest
pub place_in-some : {P : Type 0} (x : ℤ) (xs : List ℤ) (id : ℤ) (i : ℕ) → place_in id (x ∷ xs) ≡ Some i
    → (int_eq x id ≡ true → i ≡ 0 → P)
    → ((j : ℕ) → int_eq x id ≡ false → place_in id xs ≡ Some j → i ≡ suc j → P) → P
place_in-some {P} x xs id i some first later = by_test (int_eq x id) (place_in id xs) refl refl some
  where
    by_test : (b : Bool) (o : Option ℕ) → int_eq x id ≡ b → place_in id xs ≡ o
        → cond b (Some 0) (option_map suc o) ≡ Some i → P
    by_test true o test rest some = first test cc
    by_test false None test rest some = absurd cc
    by_test false (Some j) test rest some = later j test rest cc

-- the place of an id is within the list, and the id stands there
pub place_in-at : (xs : List ℤ) (id : ℤ) (i : ℕ) → place_in id xs ≡ Some i → slice_get xs i ≡ Some id
place_in-at [] id i some = absurd cc
place_in-at (x ∷ xs) id i some =
    place_in-some x xs id i some (λ test first. ap (slice_get (x ∷ xs)) first ∙ ap Some (same_number x id test))
    (λ j test rest later. ap (slice_get (x ∷ xs)) later ∙ place_in-at xs id j rest)

-- an id that another id's list doesn't have isn't that id
not_among : (xs : List ℤ) (x y : ℤ) (i : ℕ) → place_in x xs ≡ None → slice_get xs i ≡ Some y → int_eq x y ≡ false
not_among [] x y i none at = absurd cc
not_among (z ∷ zs) x y zero none at =
    let parts : (int_eq z x ≡ false) × (place_in x zs ≡ None) = place_in-none z zs x none in
    let same : z ≡ y = cc in
    int_eq-turned x y ∙ ap (λ n. int_eq n x) (sym same) ∙ parts.0
not_among (z ∷ zs) x y (suc i) none at = not_among zs x y i (place_in-none z zs x none).1 at

-- where no id comes twice, the id at a place is found there
pub place_in-own : (xs : List ℤ) (x : ℤ) (i : ℕ) → AreDifferent xs → slice_get xs i ≡ Some x → place_in x xs ≡ Some i
place_in-own [] x i apart at = absurd cc
place_in-own (y ∷ ys) x zero apart at =
    let same : y ≡ x = cc in
    ap (λ b. cond b (Some 0) (option_map suc (place_in x ys))) (ap (int_eq y) (sym same) ∙ int_eq-refl y)
place_in-own (y ∷ ys) x (suc i) apart at =
    ap (λ b. cond b (Some 0) (option_map suc (place_in x ys))) (not_among ys y x i apart.0 at)
    ∙ ap (option_map suc) (place_in-own ys x i apart.1 at)

-- ---- The index of ids

-- the index finds the place of an id
pub position-place_in : (id : ℤ) (xs : List ℤ) → position (int_eq id) xs ≡ place_in id xs
position-place_in id [] = refl
position-place_in id (x ∷ xs) =
    position-step (int_eq id) x xs
    ∙ ap (λ b. cond b (Some 0) (option_map suc (position (int_eq id) xs))) (int_eq-turned id x)
    ∙ ap (λ o. cond (int_eq x id) (Some 0) (option_map suc o)) (position-place_in id xs)

-- ids none of which is equal to one after it are different
pub AreDifferent-distinct : (xs : List ℤ) → IsDistinct int_eq xs → AreDifferent xs
unfolding IsDistinct
AreDifferent-distinct [] apart = tt
AreDifferent-distinct (x ∷ xs) apart = (absent xs apart.0, AreDifferent-distinct xs apart.1)
  where
    absent : (ys : List ℤ) → AllByRecursion (λ y. int_eq x y ≡ false) ys → place_in x ys ≡ None
    absent [] others = refl
    absent (y ∷ ys) others =
        ap (λ b. cond b (Some 0) (option_map suc (place_in x ys))) (int_eq-turned y x ∙ others.0)
        ∙ ap (option_map suc) (absent ys others.1)

-- what is kept with a new id goes last with it
pub insert_entry-last : {R : Type 0} (entries : List (ℤ × R)) (id : ℤ) (row : R) → place_in id (keys_of entries) ≡ None
    → insert_entry int_eq entries id row ≡ entries ++ (id, row) ∷ []
insert_entry-last [] id row none = refl
insert_entry-last (entry ∷ entries) id row none =
    let parts : (int_eq entry.0 id ≡ false) × (place_in id (keys_of entries) ≡ None) =
    place_in-none entry.0 (keys_of entries) id none in
    ap (λ b. cond b ((entry.0, row) ∷ entries) (entry ∷ insert_entry int_eq entries id row))
    (int_eq-turned id entry.0 ∙ parts.0)
    ∙ ap (λ rest. entry ∷ rest) (insert_entry-last entries id row parts.1)
