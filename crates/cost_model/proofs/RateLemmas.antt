-- What follows from the definition of the prices of global values.
use Rattle.std.proofs.Common.{◌≡◌, ℕ, ◌≤◌, ℤ, pos, negsuc, ◌≤ℤ◌, int_lt, Bool, true, false, cond, List, length, Some, None, Ok, Err, refl, sym, inl, inr, arith}
use Rattle.std.specs.List.{position, position_or_len}
use Rattle.std.proofs.lemmas.Bool.{cases_lt, ltb-false}
use Rattle.std.proofs.lemmas.Int.{ints}
use Rattle.std.proofs.lemmas.List.{get_or_past}
use Rattle.std.proofs.lemmas.List.Sums.{fails_before_first}
use Rattle.cost_model.specs.Prices.{is_negative, value_at, prices_of, rates_of}
use Rattle.cost_model.specs.declared.rates.RateError.TheVariants.{NegativeRate, BufferOrder}

-- a choice that is not there failed its test
not_chosen : (t : Bool) (x : ℕ) → cond t (Some x) None ≡ None → t ≡ false
not_chosen true x e = absurd (cc)
not_chosen false x e = refl

-- a number that is not negative is at least 0
not_negative : (n : ℤ) → is_negative n ≡ false → pos 0 ≤ℤ n
not_negative (pos n) e = omega (arith, ints)
not_negative (negsuc n) e = absurd (cc)

-- where no value is negative, each is at least 0
pub none-positive : (globals : List ℤ) → position is_negative globals ≡ None → (place : ℕ) → pos 0 ≤ℤ value_at globals place
none-positive globals e place =
    let all : length globals ≤ position_or_len is_negative globals = ltb-false _ _ (not_chosen _ _ e) in
    elim (cases_lt place (length globals)) [
      | inl h ↦ not_negative _ (fails_before_first is_negative globals place (pos 0) (omega arith))
      | inr h ↦ rw (get_or_past globals place (pos 0) h) (omega (arith, ints))
    ]

-- the refusal of a negative value
pub rates-negative : (globals : List ℤ) (which : ℕ) → position is_negative globals ≡ Some which →
    rates_of globals ≡ Err (NegativeRate which)
unfolding rates_of
rates-negative globals which e = rw e refl

module _ (globals : List ℤ) (penalty most : ℤ) (none : position is_negative globals ≡ None)
    (is_penalty : penalty ≡ value_at globals 4) (is_most : most ≡ value_at globals 5) where
  -- the refusal of a most below the penalty buffer
  pub rates-order : int_lt most penalty ≡ true → rates_of globals ≡ Err (BufferOrder penalty most)
  unfolding rates_of
  rates-order less =
      let order : int_lt (value_at globals 5) (value_at globals 4) ≡ true = rw (sym is_penalty, sym is_most) less in
      rw (none, order, is_penalty, is_most) refl

  -- prices where nothing is refused
  pub rates-fit : int_lt most penalty ≡ false → rates_of globals ≡ Ok (prices_of globals)
  unfolding rates_of
  rates-fit more =
      let order : int_lt (value_at globals 5) (value_at globals 4) ≡ false = rw (sym is_penalty, sym is_most) more in
      rw (none, order) refl
