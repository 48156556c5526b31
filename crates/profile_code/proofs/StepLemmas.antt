-- What one operation asks of lists.
use Rattle.std.proofs.Common.{◌≡◌, ℕ, nat_eq, List, [], ◌∷◌, refl, arith}
use Rattle.std.specs.List.{list_any}
use Rattle.std.proofs.lemmas.Bool.Decides.{nat_tests}
use Rattle.profile_text.specs.Meaning.{is_listed}

-- which of two numbers stands first doesn't matter to their equality
pub equal_turned : (n m : ℕ) → nat_eq m n ≡ nat_eq n m
equal_turned n m = grind (arith, nat_tests)

-- a number is listed where one of the list equals it
pub listed_any : (n : ℕ) (ms : List ℕ) → list_any (λ m. nat_eq m n) ms ≡ is_listed n ms
listed_any n [] = refl
listed_any n (m ∷ ms) = let e = equal_turned n m in let r = listed_any n ms in cc
