-- What is left of words behind the first.
use Rattle.std.proofs.Common.{◌≡◌, ◌<◌, List, [], ◌∷◌, drop, length, refl, arith}
use Rattle.std.specs.List.{remove}

-- without the first of some
pub removed-first : {A : Type 0} (xs : List A) → 0 < length xs → remove xs 0 ≡ drop 1 xs
removed-first [] some = absurd (omega (arith, some))
removed-first (x ∷ xs) some = refl

-- of none nothing is left
pub dropped-none : {A : Type 0} (xs : List A) → length xs ≡ 0 → xs ≡ drop 1 xs
dropped-none [] none = refl
dropped-none (x ∷ xs) none = absurd (omega (arith, none))
