-- Lengths of links as their prices (this project's own rule).
use Rattle.std.specs.Prelude.{◌≡◌, ℕ, ◌<◌, List, get_or, Option, Some, None, if◌then◌else◌, nat_lt}
use Rattle.std.proofs.lemmas.Bool.{cases_lt, lt-ltb, le-ltb}
use Rattle.std.proofs.Common.{cond, ap, inl, inr, sym, ◌∙◌, arith}
use Rattle.least_sums.specs.Prices.{PRICE_BOUND}
use Rattle.map_cases.specs.declared.timed.lengths.TheConstants.{NONE}

-- the price that a length stands for
abbrev pub price_of : ℕ → Option ℕ
price_of number = if nat_lt number NONE then Some number else None

-- the prices of links by a list of lengths
abbrev pub length_prices : List ℕ → ℕ → Option ℕ
length_prices numbers link = price_of (get_or numbers link 0)

-- each price is below the bound
pub price-small : (number price : ℕ) → price_of number ≡ Some price → price < PRICE_BOUND
price-small number price is =
    elim (cases_lt number NONE) [
      | inl below ↦
          let same : Some number ≡ Some price =
          sym (ap (λ b. cond b (Some number) None) (lt-ltb number NONE below)) ∙ is in
          let one : number ≡ price = cc in
          omega (arith, one, below)
      | inr above ↦
          let same : None ≡ Some price =
          sym (ap (λ b. cond b (Some number) None) (le-ltb number NONE (omega (arith, above)))) ∙ is in
          absurd cc
    ]
