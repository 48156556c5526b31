-- Lists: their fronts and ends, what stands at a place, and what is among them.
use Rattle.std.proofs.Common.{◌≡◌, ◌≢◌, ◌⊎◌, inl, inr, ℕ, zero, suc, ◌+◌, ◌-◌, ◌<◌, false, List, [], ◌∷◌, ◌++◌, length, nat_eq, take, drop, set, Contains, slice_get, Some, refl, ap, arith}
use Rattle.std.proofs.lemmas.List.{take_all, length-drop}

-- ---- Fronts and ends

-- one more in a front
pub front_more : {A : Type 0} (n : ℕ) (x : A) (xs : List A) → (take (1 + n) (x ∷ xs) ≡ x ∷ take n xs) × (drop (1 + n) (x ∷ xs) ≡ drop n xs)
front_more n x xs =
    let e : 1 + n ≡ suc n = omega arith in
    (ap (λ m. take m (x ∷ xs)) e, ap (λ m. drop m (x ∷ xs)) e)

-- what stands from a place to the end is all that stands after it
pub tail : {A : Type 0} (xs : List A) (k : ℕ) → take (length xs - k) (drop k xs) ≡ drop k xs
tail xs k = take_all (length xs - k) (drop k xs) (omega (arith, length-drop k xs))

-- a list whose test says that it isn't empty has an item
pub some_from_test : {A : Type 0} (xs : List A) → false ≡ nat_eq (length xs) 0 → 0 < length xs
some_from_test [] test = cc
some_from_test (x ∷ xs) test = omega arith

-- ---- What stands at a place

-- at each place below its length a list has an element
pub slice_get-there : {X : Type 0} (xs : List X) (n : ℕ) → n < length xs → (x : X) × (slice_get xs n ≡ Some x)
slice_get-there [] n below = absurd (omega arith)
slice_get-there (x ∷ xs) zero below = (x, refl)
slice_get-there (x ∷ xs) (suc n) below = slice_get-there xs n (omega arith)

-- two readings of one place are equal
pub slice_get-same : {X : Type 0} (xs : List X) (n : ℕ) (x y : X) → slice_get xs n ≡ Some x → slice_get xs n ≡ Some y → x ≡ y
slice_get-same xs n x y p q = cc

-- an element stays where it is when more follow
pub slice_get-append : {X : Type 0} (xs ys : List X) (n : ℕ) (x : X) → slice_get xs n ≡ Some x → slice_get (xs ++ ys) n ≡ Some x
slice_get-append [] ys n x e = cc
slice_get-append (y ∷ xs) ys zero x e = e
slice_get-append (y ∷ xs) ys (suc n) x e = slice_get-append xs ys n x e

-- an element at the end has the old length as its number
pub slice_get-pushed : {X : Type 0} (xs : List X) (y : X) → slice_get (xs ++ y ∷ []) (length xs) ≡ Some y
slice_get-pushed [] y = refl
slice_get-pushed (x ∷ xs) y = slice_get-pushed xs y

-- an element of a longer list is an old one or the one at the end
pub slice_get-push_cases :
    {X : Type 0} (xs : List X) (y : X) (n : ℕ) (x : X) →
    slice_get (xs ++ y ∷ []) n ≡ Some x →
    (slice_get xs n ≡ Some x) ⊎ ((n ≡ length xs) × (y ≡ x))
slice_get-push_cases [] y zero x e = inr (refl, cc)
slice_get-push_cases [] y (suc n) x e = cc
slice_get-push_cases (z ∷ xs) y zero x e = inl e
slice_get-push_cases (z ∷ xs) y (suc n) x e =
    elim (slice_get-push_cases xs y n x e) [ inl h ↦ inl h | inr (p, q) ↦ inr (ap suc p, q) ]

-- what was written is read
pub slice_get-set : {X : Type 0} (xs : List X) (i : ℕ) (y : X) → i < length xs → slice_get (set xs i y) i ≡ Some y
slice_get-set [] i y below = absurd (omega arith)
slice_get-set (z ∷ xs) zero y below = refl
slice_get-set (z ∷ xs) (suc i) y below = slice_get-set xs i y (omega arith)

-- an element after a write is an old one at another place, or the one that was written
pub slice_get-set_cases :
    {X : Type 0} (xs : List X) (i : ℕ) (y : X) (n : ℕ) (x : X) →
    slice_get (set xs i y) n ≡ Some x →
    ((n ≢ i) × (slice_get xs n ≡ Some x)) ⊎ ((n ≡ i) × (y ≡ x))
slice_get-set_cases [] i y n x e = cc
slice_get-set_cases (z ∷ xs) zero y zero x e = inr (refl, cc)
slice_get-set_cases (z ∷ xs) zero y (suc n) x e = inl (λ same. omega arith, e)
slice_get-set_cases (z ∷ xs) (suc i) y zero x e = inl (λ same. omega arith, e)
slice_get-set_cases (z ∷ xs) (suc i) y (suc n) x e =
    elim (slice_get-set_cases xs i y n x e) [
      | inl (other, h) ↦ inl (λ same. other (omega arith), h)
      | inr (p, q) ↦ inr (ap suc p, q)
    ]

-- ---- What is among them

-- nothing is in the empty list
pub Contains-none : {X : Type 0} (x : X) → Contains [] x → ⊥
Contains-none x (k, h, e) = omega arith

-- the first element is one of the list
pub Contains-first : {X : Type 0} (x : X) (xs : List X) → Contains (x ∷ xs) x
Contains-first x xs = (0, omega arith, refl)

-- an element of the rest is one of the list
pub Contains-rest : {X : Type 0} (x : X) (xs : List X) (y : X) → Contains xs y → Contains (x ∷ xs) y
Contains-rest x xs y (k, h, e) = (suc k, omega arith, e)

-- an element of a longer list is the first one or one of the rest
pub Contains-cons_cases : {X : Type 0} (x : X) (xs : List X) (y : X) → Contains (x ∷ xs) y → (x ≡ y) ⊎ Contains xs y
Contains-cons_cases x xs y (zero, h, e) = inl e
Contains-cons_cases x xs y (suc k, h, e) = inr (k, omega arith, e)
