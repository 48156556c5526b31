-- Places in lists.
use Rattle.std.proofs.Common.{◌≡◌, ℕ, zero, suc, ◌+◌, ◌<◌, List, [], ◌∷◌, ◌++◌, length, take, slice_get, slice_index_or, Some, refl, sym, ap, ◌∙◌, arith}

-- ---- What stands at a place

-- two items that stand at one place are one
pub one_item : {A : Type 0} {x y : A} → Some x ≡ Some y → x ≡ y
one_item e = cc

-- at a place within a list something stands
pub there : {A : Type 0} (xs : List A) (i : ℕ) → i < length xs → (x : A) × (slice_get xs i ≡ Some x)
there [] i below = absurd (omega arith)
there (y ∷ ys) zero below = (y, refl)
there (y ∷ ys) (suc i) below = there ys i (omega arith)

-- a front with one more item
pub take_one_more : {A : Type 0} (xs : List A) (i : ℕ) (x : A) → i < length xs → x ≡ slice_index_or xs i x
    → take (i + 1) xs ≡ take i xs ++ x ∷ []
take_one_more [] i x below read = absurd (omega arith)
take_one_more (y ∷ ys) zero x below read = ap (λ z. z ∷ []) (sym read)
take_one_more (y ∷ ys) (suc i) x below read =
    let place : suc i + 1 ≡ suc (i + 1) = omega arith in
    ap (λ n. take n (y ∷ ys)) place ∙ ap (λ zs. y ∷ zs) (take_one_more ys i x (omega arith) read)
