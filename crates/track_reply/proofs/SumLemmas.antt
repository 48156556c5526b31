-- Sums over the items of a list, one item further.
use Rattle.std.proofs.Common.{◌≡◌, ℕ, ◌+◌, ◌<◌, List, length, take, get_or, ap, arith}
use Rattle.std.specs.List.{sum_by}
use Rattle.std.proofs.lemmas.List.Sums.{sum_by_more, sum_by_more_le}

module _ {A : Type 0} (f : A → ℕ) (xs : List A) (place : ℕ) (x : A) (sum : ℕ) (below : place < length xs) (is : x ≡ get_or xs place x)
    (so_far : sum ≡ sum_by f (take place xs))
  where
    -- the sum so far and the next item stay within a bound on all
    pub sum-fits : (bound : ℕ) → sum_by f xs < bound → sum + f x < bound
    sum-fits bound fits =
        let next : f x ≡ f (get_or xs place x) = ap f is in
        omega (arith, fits, so_far, next, sum_by_more_le f xs place x below)

    -- the sum of the items before a place and of the one at it
    pub sum-more : (new : ℕ) → new ≡ sum + f x → new ≡ sum_by f (take (place + 1) xs)
    sum-more new added =
        let next : f x ≡ f (get_or xs place x) = ap f is in
        omega (arith, added, so_far, next, sum_by_more f xs place x below)
