-- Counts of openings, and the words of files that stand one after the other.
use Rattle.std.proofs.Common.{◌≡◌, ℕ, zero, suc, ◌+◌, List, [], ◌∷◌, ◌++◌, length, Some, ap, ◌∙◌, arith}
use Rattle.std.specs.Prelude.{slice_get}
use Rattle.edge_io.specs.Faults.{count_after, next_count}

-- a count after some more and then more
pub count_after-count_after : (m n count : ℕ) → count_after n (count_after m count) ≡ count_after (m + n) count
count_after-count_after m zero count = ap (λ k. count_after k count) (let e : m ≡ m + 0 = omega arith in e)
count_after-count_after m (suc n) count =
    ap next_count (count_after-count_after m n count) ∙ ap (λ k. count_after k count) (let e : suc (m + n) ≡ m + suc n = omega arith in e)

-- the items of a list that follows another
pub get_after : (first more : List ℕ) (k word : ℕ) → slice_get more k ≡ Some word → slice_get (first ++ more) (length first + k) ≡ Some word
get_after [] more k word is = ap (slice_get more) (let e : 0 + k ≡ k = omega arith in e) ∙ is
get_after (x ∷ xs) more k word is =
    ap (slice_get (x ∷ (xs ++ more))) (let e : suc (length xs) + k ≡ suc (length xs + k) = omega arith in e) ∙ get_after xs more k word is

-- a front of a list has the same items
pub get_front : (first more : List ℕ) (k word : ℕ) → slice_get first k ≡ Some word → slice_get (first ++ more) k ≡ Some word
get_front [] more k word is = cc
get_front (x ∷ xs) more zero word is = is
get_front (x ∷ xs) more (suc k) word is = get_front xs more k word is
