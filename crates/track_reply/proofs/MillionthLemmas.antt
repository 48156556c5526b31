-- The text of a sum of millionths: its whole number, and what is printed behind the nought of the rest.
use Rattle.std.proofs.Common.{◌≡◌, ℕ, pos, Result, Ok, Err, is_ok, OnOk, if◌then◌else◌, Bool, true, false, ◌-◌, ◌%◌, ◌/◌, ◌<◌, ◌≤◌, List, [], ◌∷◌, ◌++◌, length, take, drop, append_assoc, refl, ap, sym, ◌∙◌, arith, decimal, to_z}
use Rattle.std.proofs.lemmas.Fmt.{decimal_digit}
use Rattle.std.proofs.lemmas.Int.{ints, to_z_pos}
use Rattle.std.proofs.lemmas.List.{take_all}
use Rattle.std.specs.Int.{is_negative, w128}
use Rattle.fixed_num.specs.Decimal.{sign_text}
use Rattle.fixed_num.specs.Text.{last_digits, mil6}

-- a count is not negative
pos-not_negative : (n : ℕ) → is_negative (pos n) ≡ false
pos-not_negative n = go (is_negative (pos n)) refl
  where
    go : (t : Bool) → is_negative (pos n) ≡ t → is_negative (pos n) ≡ false
    go true e = absurd (omega (arith, ints))
    go false e = e

-- a count of millionths has no sign
plain-text : (n : ℕ) → mil6 (pos n) ≡ decimal (n / 1000000) ++ 46 ∷ last_digits 6 (n % 1000000)
unfolding mil6
plain-text n = ap (λ b. sign_text b ++ (decimal (n / 1000000) ++ 46 ∷ last_digits 6 (n % 1000000))) (pos-not_negative n)

-- the millionths beyond a whole number are printed behind a nought
rest-text : (rest : ℕ) → rest < 1000000 → mil6 (pos rest) ≡ 48 ∷ (46 ∷ last_digits 6 rest)
rest-text rest below =
    let whole : rest / 1000000 ≡ 0 = omega (arith, below) in
    let same : rest % 1000000 ≡ rest = omega (arith, below) in
    plain-text rest ∙ ap (λ (q : ℕ). decimal q ++ (46 ∷ last_digits 6 (rest % 1000000))) whole
    ∙ ap (λ (r : ℕ). decimal 0 ++ (46 ∷ last_digits 6 r)) same
    ∙ ap (λ (d : List ℕ). d ++ (46 ∷ last_digits 6 rest)) (decimal_digit 0 (omega arith))

-- what is printed of the millionths beyond a whole number
rest-is : (rest : List ℕ) (n : ℕ) → rest ≡ mil6 (to_z w128 (n % 1000000)) → rest ≡ 48 ∷ (46 ∷ last_digits 6 (n % 1000000))
rest-is rest n is = is ∙ ap mil6 (to_z_pos w128 (n % 1000000) (omega arith)) ∙ rest-text (n % 1000000) (omega arith)

-- a sum is its whole number, and what is printed behind the nought of the rest
sum-put :
    (old whole new rest : List ℕ) (n : ℕ) → whole ≡ old ++ decimal (n / 1000000) → rest ≡ mil6 (to_z w128 (n % 1000000)) →
    new ≡ whole ++ take (length rest - 1) (drop 1 rest) → new ≡ old ++ mil6 (pos n)
sum-put old whole new rest n first second third =
    let tail = 46 ∷ last_digits 6 (n % 1000000) in
    third ∙ ap (λ (r : List ℕ). whole ++ take (length r - 1) (drop 1 r)) (rest-is rest n second)
    ∙ ap (λ (t : List ℕ). whole ++ t) (take_all (length tail) tail (omega arith))
    ∙ ap (λ (w : List ℕ). w ++ tail) first ∙ append_assoc old (decimal (n / 1000000)) tail
    ∙ ap (λ (t : List ℕ). old ++ t) (sym (plain-text n))

-- the same where it may not have been put
pub sum-appended : {A E : Type 0} (result : Result A E) (old whole new rest : List ℕ) (n : ℕ) → whole ≡ old ++ decimal (n / 1000000) →
    rest ≡ mil6 (to_z w128 (n % 1000000)) → new ≡ (if is_ok result then whole ++ take (length rest - 1) (drop 1 rest) else whole) →
    OnOk result (new ≡ old ++ mil6 (pos n))
sum-appended (Ok a) old whole new rest n first second third = sum-put old whole new rest n first second third
sum-appended (Err e) old whole new rest n first second third = tt

-- what is printed of a rest is never empty
pub rest-some : (rest : List ℕ) (n : ℕ) → rest ≡ mil6 (to_z w128 (n % 1000000)) → 1 ≤ length rest
rest-some rest n is = omega (arith, ap length (rest-is rest n is))
