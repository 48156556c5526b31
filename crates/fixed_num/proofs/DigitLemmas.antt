-- Digits as numbers, and numbers held below a bound.
use Rattle.std.proofs.Common.{◌≡◌, ℕ, ◌+◌, ◌-◌, ◌*◌, ◌<◌, ◌≤◌, min, List, [], ◌∷◌, length, get_or, drop, ap, ◌∙◌, subst, arith, rules, IsTrue, inl, inr}
use Rattle.std.proofs.lemmas.Bool.{cases_lt}
use Rattle.std.proofs.lemmas.List.{drop_more}
use Rattle.std.specs.Str.{all_ascii_digits}
use Rattle.fixed_num.specs.Decimal.{digits_after}

-- digits that follow a number never make it less
pub digits_after-ge : (n : ℕ) (ds : List ℕ) → n ≤ digits_after n ds
digits_after-ge n [] = omega arith
digits_after-ge n (d ∷ ds) = omega (arith, digits_after-ge (10 * n + (d - 48)) ds)

-- a number that is held at a bound before its last digits are read is held there after them too
pub min-digits_after : (cap n : ℕ) (ds : List ℕ) → min (digits_after (min cap n) ds) cap ≡ min (digits_after n ds) cap
min-digits_after cap n ds =
    elim (cases_lt n cap) [
      | inl below ↦ let same : min cap n ≡ n = omega arith in ap (λ m. min (digits_after m ds) cap) same
      | inr above ↦ omega (arith, digits_after-ge n ds, digits_after-ge (min cap n) ds)
    ]

-- the number so far, held at the bound, with the digits that are left comes to the whole number, held at the bound
pub record CountsOn (before : ℕ) (digits : List ℕ) (number : ℕ) (rest : List ℕ) : Type 0 where
  pub fits : number ≤ 10000000000000000
  pub digits_left : IsTrue (all_ascii_digits rest)
  pub total : min (digits_after number rest) 10000000000000000 ≡ min (digits_after before digits) 10000000000000000

-- reading one more digit counts on
CountsOn-step : (before : ℕ) (digits : List ℕ) (number d : ℕ) (rest : List ℕ) → CountsOn before digits number (d ∷ rest) →
    CountsOn before digits (min 10000000000000000 (10 * number + (d - 48))) rest
CountsOn-step before digits number d rest h = record {
  fits = omega arith;
  digits_left = search (rules, h.digits_left);
  total = min-digits_after 10000000000000000 (10 * number + (d - 48)) rest ∙ h.total;
}

-- the same, where the digit stands at a place of the text
pub CountsOn-more : (before : ℕ) (digits : List ℕ) (number i : ℕ) → i < length digits →
    CountsOn before digits number (drop i digits) →
    CountsOn before digits (min 10000000000000000 (10 * number + (get_or digits i 0 - 48))) (drop (i + 1) digits)
CountsOn-more before digits number i lt h =
    CountsOn-step before digits number (get_or digits i 0) (drop (i + 1) digits)
    (subst (λ (r : List ℕ). CountsOn before digits number r) (drop_more digits i 0 lt) h)
