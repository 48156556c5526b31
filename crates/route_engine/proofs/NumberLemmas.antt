-- The waypoints between which costs are asked for are among those of the request.
use Rattle.std.proofs.Common.{◌≡◌, inl, inr, ℕ, zero, suc, ◌+◌, ◌<◌, ◌≤◌, List, [], ◌∷◌, ◌++◌, length, get_or, map, take, refl, sym, ap, ◌∙◌, arith}
use Rattle.std.proofs.lemmas.Bool.{cases_lt}
use Rattle.std.proofs.lemmas.List.{get_or_append_left, get_or_push, length_push, map-append, take_more}
use Rattle.route_http.specs.Numbers.{AreBelow}
use Rattle.route_engine.specs.Numbers.{chosen, nodes_at, numbers_below}

-- there are as many numbers below a count
below-count : (count : ℕ) → length (numbers_below count) ≡ count
below-count zero = refl
below-count (suc n) = length_push (numbers_below n) n ∙ omega (arith, below-count n)

-- each of them is below it
below-each : (count k : ℕ) → k < count → get_or (numbers_below count) k 0 < count
below-each zero k there = absurd (omega (arith, there))
below-each (suc n) k there = elim (cases_lt k n) [
  | inl less ↦
      let before : k < length (numbers_below n) = omega (arith, less, below-count n) in
      let same : get_or (numbers_below (suc n)) k 0 ≡ get_or (numbers_below n) k 0 =
      get_or_append_left (numbers_below n) (n ∷ []) zero k before in
      let less_now : get_or (numbers_below n) k 0 < n = below-each n k less in
      omega (arith, same, less_now)
  | inr more ↦
      let last : k ≡ length (numbers_below n) = omega (arith, there, more, below-count n) in
      let same : get_or (numbers_below (suc n)) k 0 ≡ n = get_or_push (numbers_below n) n zero k (sym last) in
      omega (arith, same)
]

-- what is chosen is below the count
pub chosen-below : (named : List ℕ) (count : ℕ) → count ≤ 100 → AreBelow count named → AreBelow count (chosen named count)
chosen-below [] count few are = record {
  few = omega (arith, few, below-count count);
  each = λ k there. below-each count k (omega (arith, there, below-count count));
}
chosen-below (number ∷ numbers) count few are = are

-- where none is named, all below the count are chosen
pub chosen-none : (named : List ℕ) (count : ℕ) → length named ≡ 0 → chosen named count ≡ numbers_below count
chosen-none [] count none = refl
chosen-none (number ∷ numbers) count none = absurd (omega (arith, none))

-- else those that are named
pub chosen-some : (named : List ℕ) (count : ℕ) → 0 < length named → chosen named count ≡ named
chosen-some [] count some = absurd (omega (arith, some))
chosen-some (number ∷ numbers) count some = refl

-- there are as many as the count where none is named
pub count-none : (named : List ℕ) (count : ℕ) → length named ≡ 0 → length (chosen named count) ≡ count
count-none named count none = ap length (chosen-none named count none) ∙ below-count count

-- a node more of those that are named
pub nodes-named : (nodes numbers named : List ℕ) (i node : ℕ) → i < length numbers → named ≡ nodes_at nodes (take i numbers) →
    node ≡ get_or nodes (get_or numbers i 0) 0 → named ++ node ∷ [] ≡ nodes_at nodes (take (i + 1) numbers)
nodes-named nodes numbers named i node there is same =
    let at : ℕ → ℕ = λ (number : ℕ). get_or nodes number 0 in
    ap (λ (n : ℕ). named ++ n ∷ []) same
    ∙ ap (λ (l : List ℕ). l ++ at (get_or numbers i 0) ∷ []) is
    ∙ sym (map-append at (take i numbers) (get_or numbers i 0 ∷ []))
    ∙ ap (map at) (sym (take_more numbers i 0 there))
