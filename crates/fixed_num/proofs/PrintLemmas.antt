-- Texts that are written from their end.
use Rattle.std.proofs.Common.{◌≡◌, ℤ, unsigned_abs, Bool, ℕ, ◌+◌, ◌/◌, ◌%◌, ◌^◌, ◌<◌, ◌≤◌, List, [], ◌∷◌, ◌++◌, length, refl, sym, ap, ◌∙◌, arith, append_assoc, length-append, add-one}
use Rattle.std.proofs.Math.Nat.{div-div-eq-div-mul, pow-suc}
use Rattle.std.proofs.lemmas.Fmt.{decimal_step_wide, decimal_digit, length-decimal-le_wide}
use Rattle.std.specs.Fmt.{decimal}
use Rattle.std.specs.Int.{is_negative}
use Rattle.fixed_num.specs.Decimal.{sign_text}
use Rattle.fixed_num.specs.Text.{last_digits, mil6}

-- ---- The whole part

-- what is left to write and what is written come to the whole text, and there is room for it
pub record WritesOn (whole : List ℕ) (rest : ℕ) (text : List ℕ) : Type 0 where
  pub room : length text + length (decimal rest) ≤ 48
  pub all : decimal rest ++ text ≡ whole

-- the last digit of what is left, written
pub WritesOn-step : (whole : List ℕ) (rest : ℕ) (text : List ℕ) → 10 ≤ rest → rest < 2 ^ 128 → WritesOn whole rest text →
    WritesOn whole (rest / 10) ((48 + rest % 10) ∷ text)
WritesOn-step whole rest text more fits h =
    let step : decimal rest ≡ decimal (rest / 10) ++ ((48 + rest % 10) ∷ []) = decimal_step_wide rest more (omega arith) in
    let longer : length (decimal rest) ≡ length (decimal (rest / 10)) + 1 =
    ap length step ∙ length-append (decimal (rest / 10)) ((48 + rest % 10) ∷ []) in
    record {
      room = omega (arith, h.room);
      all = sym (append_assoc (decimal (rest / 10)) ((48 + rest % 10) ∷ []) text) ∙ ap (λ ds. ds ++ text) (sym step) ∙ h.all;
    }

-- there is a digit to write
pub WritesOn-room : (whole : List ℕ) (rest : ℕ) (text : List ℕ) → 10 ≤ rest → rest < 2 ^ 128 → WritesOn whole rest text → length text < 48
WritesOn-room whole rest text more fits h = omega (arith, (WritesOn-step whole rest text more fits h).room)

-- one digit is left to write
pub WritesOn-last : (whole : List ℕ) (rest : ℕ) (text : List ℕ) → rest < 10 → WritesOn whole rest text →
    (length text < 48) × ((48 + rest) ∷ text ≡ whole)
WritesOn-last whole rest text one h =
    let last : decimal rest ≡ (48 + rest) ∷ [] = decimal_digit rest one in
    (omega (arith, h.room, ap length last), ap (λ ds. ds ++ text) (sym last) ∙ h.all)

-- a number of 128 bits has at most 39 digits
pub WritesOn-start : (number : ℕ) (text : List ℕ) → number < 2 ^ 128 → length text + 39 ≤ 48 → WritesOn (decimal number ++ text) number text
WritesOn-start number text fits room = record {
  room = omega (arith, length-decimal-le_wide 39 number (omega arith) (omega arith) (omega arith));
  all = refl;
}

-- ---- The decimals

-- so many decimals are written before a text
pub record WritesDecimals (fraction : ℕ) (before : List ℕ) (count rest : ℕ) (text : List ℕ) : Type 0 where
  pub rest_is : rest ≡ fraction / 10 ^ count
  pub len : length text ≡ count + length before
  pub text_is : text ≡ last_digits count fraction ++ before

-- one more decimal, written
pub WritesDecimals-step : (fraction : ℕ) (before : List ℕ) (count rest : ℕ) (text : List ℕ) →
    WritesDecimals fraction before count rest text →
    WritesDecimals fraction before (count + 1) (rest / 10) ((48 + rest % 10) ∷ text)
WritesDecimals-step fraction before count rest text h = record {
  rest_is =
      ap (λ n. n / 10) h.rest_is ∙ div-div-eq-div-mul fraction (10 ^ count) 10 ∙ ap (λ p. fraction / p) (sym (pow-suc 10 count))
      ∙ ap (λ k. fraction / 10 ^ k) (sym (add-one count));
  len = omega (arith, h.len);
  text_is =
      ap (λ n. (48 + n % 10) ∷ text) h.rest_is
      ∙ ap (λ t. (48 + fraction / 10 ^ count % 10) ∷ t) h.text_is
      ∙ ap (λ k. last_digits k fraction ++ before) (sym (add-one count));
}

-- no decimal is written yet
pub WritesDecimals-start : (fraction : ℕ) (before : List ℕ) → WritesDecimals fraction before 0 fraction before
WritesDecimals-start fraction before = record { rest_is = omega arith; len = omega arith; text_is = refl }

-- ---- The whole text

-- a text without a sign has at most 46 bytes
pub length-unsigned : (size : ℕ) (text : List ℕ) → size < 2 ^ 128 →
    text ≡ decimal (size / 1000000) ++ 46 ∷ last_digits 6 (size % 1000000) → length text ≤ 46
length-unsigned size text fits text_is =
    let whole = size / 1000000 in
    let both = length-append (decimal whole) (46 ∷ last_digits 6 (size % 1000000)) in
    omega (arith, ap length text_is, both, length-decimal-le_wide 39 whole (omega arith) (omega arith) (omega arith))

-- the sign of a number and the text of its size make the whole text
pub mil6_is : (n z : ℤ) (size : ℕ) (sign : Bool) (text : List ℕ) → z ≡ n → size ≡ unsigned_abs z → is_negative z ≡ sign →
    text ≡ decimal (size / 1000000) ++ 46 ∷ last_digits 6 (size % 1000000) → sign_text sign ++ text ≡ mil6 n
unfolding mil6
mil6_is n z size sign text same size_is sign_is text_is =
    ap (λ t. sign_text sign ++ t) text_is
    ∙ ap (λ s. sign_text s ++ (decimal (size / 1000000) ++ 46 ∷ last_digits 6 (size % 1000000))) (sym sign_is ∙ ap is_negative same)
    ∙ ap (λ m. sign_text (is_negative n) ++ (decimal (m / 1000000) ++ 46 ∷ last_digits 6 (m % 1000000))) (size_is ∙ ap unsigned_abs same)
