-- The numbers of a grid's text are numbers of JSON.
use Rattle.std.proofs.Common.{◌≡◌, inl, inr, ℕ, zero, suc, ◌+◌, ◌/◌, ◌%◌, ◌^◌, ◌<◌, true, false, ◌&&◌, List, [], ◌∷◌, ◌++◌, length, get_or, pos, unsigned_abs, refl, sym, ap, ◌∙◌, subst, arith, rules}
use Rattle.std.proofs.lemmas.Bool.{and_parts}
use Rattle.std.proofs.lemmas.Bool.Decides.{nat_tests}
use Rattle.std.proofs.lemmas.Fmt.{decimal_digit, digits_decimal, decimal_nonempty, first_decimal}
use Rattle.std.proofs.lemmas.List.{append-nil}
use Rattle.std.proofs.lemmas.Str.Parse.{IsNumeralModel, numerals_by_fold, tells_all_ascii_digits}
use Rattle.std.specs.Char.{is_ascii_digit}
use Rattle.std.specs.Fmt.{decimal}
use Rattle.std.specs.Int.{is_negative}
use Rattle.std.specs.Str.{all_ascii_digits}
use Rattle.fixed_num.specs.Decimal.{digits_after, sign_text}
use Rattle.fixed_num.specs.Text.{last_digits, mil6}
use Rattle.json_text.specs.declared.mode.Kind.TheVariants as kind_
use Rattle.json_text.specs.Bytes.{AreAll, is_digit, kind_of}
use Rattle.json_text.specs.Numbers.{IsNumber}

-- ---- Digits

-- `digits_after` reads numerals
pub numerals : IsNumeralModel (λ ds. all_ascii_digits ds ≡ true) (digits_after 0)
numerals = numerals_by_fold _ tells_all_ascii_digits digits_after (search rules)

-- a digit of texts is one of JSON
digit-json : (b : ℕ) → is_ascii_digit b ≡ true → is_digit b ≡ true
digit-json b h = grind (arith, nat_tests)

-- one above zero is of that kind
digit-kind : (b : ℕ) → is_ascii_digit b ≡ true → 48 < b → kind_of b ≡ kind_.Digit
digit-kind b h above = grind (arith, nat_tests)

-- so are digits that stand in a list
digits-json : (ds : List ℕ) → all_ascii_digits ds ≡ true → AreAll is_digit ds
digits-json [] h = tt
digits-json (d ∷ ds) h =
    let parts : (is_ascii_digit d ≡ true) × (all_ascii_digits ds ≡ true) = and_parts _ _ h in
    (digit-json d parts.0, digits-json ds parts.1)

-- the last digits of a number are digits
pub last_digits-digits : (k n : ℕ) → all_ascii_digits (last_digits k n) ≡ true
last_digits-digits zero n = refl
last_digits-digits (suc k) n =
    ap (λ v. v && all_ascii_digits (last_digits k n)) (digit_is (n / 10 ^ k % 10) (omega arith)) ∙ last_digits-digits k n
  where
    digit_is : (g : ℕ) → g < 10 → is_ascii_digit (48 + g) ≡ true
    digit_is g small = grind (arith, nat_tests)

-- ---- Numbers

-- digits of which the first isn't zero are a number
number-digits : (ds : List ℕ) → all_ascii_digits ds ≡ true → 0 < length ds → 48 < get_or ds 0 0 → IsNumber ds
number-digits [] digits some first = absurd (omega arith)
number-digits (d ∷ ds) digits some first =
    let parts : (is_ascii_digit d ≡ true) × (all_ascii_digits ds ≡ true) = and_parts _ _ digits in
    record {
      minus = [];
      int = d ∷ ds;
      frac = [];
      exp = [];
      is_minus = tt;
      is_int = inr (digit-kind d parts.0 first, digits-json ds parts.1);
      is_frac = tt;
      is_exp = tt;
      spelled = sym (append-nil (d ∷ ds));
    }

-- the digits of a number above zero are one
pub decimal-number : (n : ℕ) → 0 < n → n < 2 ^ 64 → IsNumber (decimal n)
decimal-number n some few =
    number-digits (decimal n) (digits_decimal numerals n few) (decimal_nonempty n few) (first_decimal n some few)

-- so is a zero with six decimals
fraction-number : (n : ℕ) → IsNumber (48 ∷ 46 ∷ last_digits 6 n)
fraction-number n =
    let digits = digits-json (last_digits 6 n) (last_digits-digits 6 n) in
    record {
      minus = [];
      int = 48 ∷ [];
      frac = 46 ∷ last_digits 6 n;
      exp = [];
      is_minus = tt;
      is_int = inl (refl, refl);
      is_frac = (refl, digits);
      is_exp = tt;
      spelled = ap (λ (f : List ℕ). 48 ∷ f) (sym (append-nil (46 ∷ last_digits 6 n)));
    }

-- millionths of less than one are a zero with six decimals
pub mil6-small : (n : ℕ) → n < 1000000 → mil6 (pos n) ≡ 48 ∷ 46 ∷ last_digits 6 n
unfolding mil6
mil6-small n few =
    let plus : is_negative (pos n) ≡ false = grind (arith, nat_tests) in
    let size : unsigned_abs (pos n) ≡ n = refl in
    let none : n / 1000000 ≡ 0 = omega (arith, few) in
    let all : n % 1000000 ≡ n = omega (arith, few) in
    let zero : decimal 0 ≡ 48 ∷ [] = decimal_digit 0 (omega arith) in
    ap (λ s. sign_text s ++ (decimal (n / 1000000) ++ 46 ∷ last_digits 6 (n % 1000000))) plus
    ∙ ap (λ w. decimal w ++ 46 ∷ last_digits 6 (n % 1000000)) none
    ∙ ap (λ d. d ++ 46 ∷ last_digits 6 (n % 1000000)) zero
    ∙ ap (λ r. 48 ∷ 46 ∷ last_digits 6 r) all

-- so they are a number
pub mil6-number : (n : ℕ) → n < 1000000 → IsNumber (mil6 (pos n))
mil6-number n few = subst IsNumber (sym (mil6-small n few)) (fraction-number n)
