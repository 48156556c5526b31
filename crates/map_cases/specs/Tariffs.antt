-- The prices of links by a list (this project's own rule).
use Rattle.std.specs.Prelude.{◌≡◌, ℕ, ◌<◌, List, get_or, Option, Some, None, if◌then◌else◌, nat_lt}
use Rattle.std.proofs.lemmas.Bool.{cases_lt, lt-ltb, le-ltb}
use Rattle.std.proofs.Common.{cond, ap, inl, inr, sym, ◌∙◌, subst, arith}
use Rattle.least_sums.specs.Prices.{PRICE_BOUND}

-- the price that a number stands for, none from the bound on
abbrev pub price_of : ℕ → Option ℕ
price_of number = if nat_lt number PRICE_BOUND then Some number else None

-- the prices of links by a list
abbrev pub prices_of : List ℕ → ℕ → Option ℕ
prices_of numbers link = price_of (get_or numbers link 0)

-- each price is below the bound
pub price-small : (number price : ℕ) → price_of number ≡ Some price → price < PRICE_BOUND
price-small number price is =
    elim (cases_lt number PRICE_BOUND) [
      | inl below ↦
          let same : Some number ≡ Some price =
          sym (ap (λ b. cond b (Some number) None) (lt-ltb number PRICE_BOUND below)) ∙ is in
          let one : number ≡ price = cc in
          subst (λ n. n < PRICE_BOUND) one below
      | inr above ↦
          let same : None ≡ Some price =
          sym (ap (λ b. cond b (Some number) None) (le-ltb number PRICE_BOUND (omega (arith, above))))
          ∙ is in
          absurd cc
    ]
