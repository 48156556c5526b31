-- Tests of numbers and bytes, and places that are counted.
use Rattle.std.proofs.Common.{◌≡◌, ◌≢◌, ◌⊎◌, inl, inr, ℕ, suc, ◌+◌, ◌<◌, Bool, true, false, not, cond, ◌||◌, List, [], ◌∷◌, length, position, slice_get, nat_lt, bytes_eq, Option, Some, None, option_map, refl, sym, ap, ◌∙◌, arith}
use Rattle.std.specs.List.{prefix_len}
use Rattle.std.proofs.lemmas.Bool.{cases_eq}
use Rattle.std.proofs.lemmas.Bool.Decides.{nat_tests}
use Rattle.std.proofs.lemmas.Slice.Eq.{bytes_eq-Decides}

-- ---- Tests

-- the order of the first two of three tests is free
pub or-exchanged : (a b c : Bool) → (a || (b || c)) ≡ (b || (a || c))
or-exchanged true true c = refl
or-exchanged true false c = refl
or-exchanged false true c = refl
or-exchanged false false c = refl

-- a number below the next one is below this one or is it
pub below-next : (n m : ℕ) → n < m + 1 → (n < m) ⊎ (n ≡ m)
below-next n m h = elim (cases_eq n m) [ inl e ↦ inr e | inr other ↦ inl (omega arith) ]

-- ---- Bytes

-- bytes that are told to be equal are
pub bytes_eq-same : (x y : List ℕ) → bytes_eq x y ≡ true → x ≡ y
bytes_eq-same x y test = (bytes_eq-Decides x y).0 test

-- bytes equal themselves
pub bytes_eq-refl : (x : List ℕ) → bytes_eq x x ≡ true
bytes_eq-refl x = (bytes_eq-Decides x x).1 refl

-- bytes that differ are told apart
pub bytes_eq-other : (x y : List ℕ) → x ≢ y → bytes_eq x y ≡ false
bytes_eq-other x y differ =
    elim (bytes_eq x y) as (λ (test : Bool). bytes_eq x y ≡ test → test ≡ false) [
      | true ↦ λ same. absurd (differ (bytes_eq-same x y same))
      | false ↦ λ other. refl
    ] refl

-- bytes differ both ways
pub bytes_eq-turned : (x y : List ℕ) → bytes_eq x y ≡ false → bytes_eq y x ≡ false
bytes_eq-turned x y test =
    bytes_eq-other y x (λ same. let wrong : bytes_eq x y ≡ true = ap (bytes_eq x) same ∙ bytes_eq-refl x in cc)

-- ---- Places that are counted

-- what is counted is something
pub option_map-some : {A B : Type 0} (f : A → B) (b : B) (found : Option A) → option_map f found ≡ Some b →
    (a : A) × (found ≡ Some a) × (f a ≡ b)
option_map-some f b None is = cc
option_map-some f b (Some a) is = (a, refl, cc)

-- where nothing is counted, nothing is there
pub option_map-none : {A B : Type 0} (f : A → B) (found : Option A) → option_map f found ≡ None → found ≡ None
option_map-none f None is = refl
option_map-none f (Some a) is = absurd (cc)

-- a place counted from the front
pub place-from_front : (found : Option ℕ) → found ≡ option_map (λ (n : ℕ). 0 + n) found
place-from_front None = refl
place-from_front (Some n) = ap (λ (m : ℕ). Some m) (omega arith)

-- a place counted from the next one on
pub place-from_next : (k : ℕ) (found : Option ℕ) →
    option_map (λ (n : ℕ). k + n) (option_map suc found) ≡ option_map (λ (n : ℕ). suc k + n) found
place-from_next k None = refl
place-from_next k (Some n) = ap (λ (m : ℕ). Some m) (omega arith)

-- ---- Where an item stands that passes a test

-- what `position` answers where the first passes
found_first : (len : ℕ) → cond {A = Option ℕ} (nat_lt 0 (suc len)) (Some 0) None ≡ Some 0
found_first len = let test : nat_lt 0 (suc len) ≡ true = grind (arith, nat_tests) in ap
    (λ b. cond {A = Option ℕ} b (Some 0) None) test

-- what it answers where the first doesn't
found_later : (n len : ℕ)
    → cond {A = Option ℕ} (nat_lt (1 + n) (suc len)) (Some (1 + n)) None
    ≡ option_map suc (cond (nat_lt n len) (Some n) None)
found_later n len = by_test (nat_lt n len) refl
  where
    one : 1 + n ≡ suc n
    one = omega arith

    by_test : (b : Bool) → nat_lt n len ≡ b → cond (nat_lt (1 + n) (suc len)) (Some (1 + n)) None
        ≡ option_map suc (cond b (Some n) None)
    by_test true below =
        let test : nat_lt (1 + n) (suc len) ≡ true = grind (arith, nat_tests) in
        ap (λ b. cond b (Some (1 + n)) None) test ∙ ap Some one
    by_test false above =
        let test : nat_lt (1 + n) (suc len) ≡ false = grind (arith, nat_tests) in
        ap (λ b. cond b (Some (1 + n)) None) test

-- the first item that passes is the first of the list, or stands in the rest
pub position-step : {A : Type 0} (test : A → Bool) (x : A) (xs : List A)
    → position test (x ∷ xs) ≡ cond (test x) (Some 0) (option_map suc (position test xs))
position-step test x xs = by_test (test x) refl
  where
    by_test : (b : Bool) → test x ≡ b → position test (x ∷ xs) ≡ cond b (Some 0) (option_map suc (position test xs))
    by_test true passes =
        ap (λ b. cond (nat_lt (cond (not b) (1 + prefix_len (λ x. not (test x)) xs) 0) (suc (length xs)))
        (Some (cond (not b) (1 + prefix_len (λ x. not (test x)) xs) 0)) None) passes ∙ found_first (length xs)
    by_test false fails =
        ap (λ b. cond (nat_lt (cond (not b) (1 + prefix_len (λ x. not (test x)) xs) 0) (suc (length xs)))
        (Some (cond (not b) (1 + prefix_len (λ x. not (test x)) xs) 0)) None) fails
        ∙ found_later (prefix_len (λ x. not (test x)) xs) (length xs)

-- what is found passes
pub position-at : {A : Type 0} (test : A → Bool) (xs : List A) (i : ℕ) → position test xs ≡ Some i
    → (x : A) × (slice_get xs i ≡ Some x) × (test x ≡ true)
position-at test [] i found = absurd cc
position-at {A} test (x ∷ xs) i found =
    by_test (test x) (position test xs) (position-at test xs) refl refl (sym (position-step test x xs) ∙ found)
  where
    by_test : (b : Bool) (o : Option ℕ) → ((j : ℕ) → position test xs ≡ Some j
        → (y : A) × (slice_get xs j ≡ Some y) × (test y ≡ true))
        → test x ≡ b → position test xs ≡ o → cond b (Some 0) (option_map suc o) ≡ Some i
        → (y : A) × (slice_get (x ∷ xs) i ≡ Some y) × (test y ≡ true)
    by_test true o inner passes rest some = let first : 0 ≡ i = cc in (x, ap (slice_get (x ∷ xs)) (sym first), passes)
    by_test false None inner fails rest some = absurd cc
    by_test false (Some j) inner fails rest some =
        let later : suc j ≡ i = cc in
        ((inner j rest).0, ap (slice_get (x ∷ xs)) (sym later) ∙ (inner j rest).1, (inner j rest).2)
