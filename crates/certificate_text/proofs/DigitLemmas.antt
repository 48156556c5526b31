-- Digits that are read one after the other.
use Rattle.std.proofs.Common.{◌≡◌, ℕ, zero, suc, ◌+◌, ◌-◌, ◌*◌, ◌^◌, ◌<◌, ◌≤◌, inl, inr, true, List, [], ◌∷◌, ◌++◌, length, get_or, take, drop, refl, sym, ap, ◌∙◌, subst, arith}
use Rattle.std.specs.Prelude.{decimal}
use Rattle.std.specs.Str.Parse.{AllDigits, digits_value}
use Rattle.std.proofs.lemmas.Bool.{cases_lt}
use Rattle.std.proofs.lemmas.Bool.Decides.{nat_tests}
use Rattle.std.proofs.lemmas.Fmt.{decimal_is_IsNumeral_wide, decimal_digit, decimal-digits_value, first_decimal, length-decimal-le_wide}
use Rattle.std.proofs.lemmas.Int.Digits.{digits_value_more, digits_more}
use Rattle.std.proofs.lemmas.List.{get_or_append_left, get_or-take, length-append, length-take-le, take_at}
use Rattle.std.proofs.lemmas.Str.{digit_value_digit}
use Rattle.std.proofs.lemmas.Str.Parse.{IsNumeralModel, digit_at, digits_value_short, numerals_by_value, tells_digits}
use Rattle.item_list.specs.Bytes.{is_digit}
use Rattle.certificate_text.specs.Parts.{IsShort, IsScanned, Stops, IsPlain}

-- ---- Digits at a text's front

-- std's word for digits is one
own : IsNumeralModel (AllDigits 10) (digits_value 10)
own = numerals_by_value (AllDigits 10) tells_digits

-- so many digits are a number below this power of ten
pub scanned-below : (text : List ℕ) (place number most : ℕ) → IsScanned text place number → place ≤ most → number < 10 ^ most
scanned-below text place number most is few =
    let size : length (take place text) ≡ place = length-take-le place text is.within in
    let low = digits_value_short own (take place text) most is.digits (omega (arith, size)) in
    subst (λ n. n < 10 ^ most) (sym is.value) low

-- a byte that is told to be a digit is one
pub digit-told : (c : ℕ) → is_digit c ≡ true → (48 ≤ c) × (c ≤ 57)
digit-told c test = grind (arith, nat_tests)

-- and one that is is told to be
pub digit-tells : (c : ℕ) → 48 ≤ c → c ≤ 57 → is_digit c ≡ true
digit-tells c low high = grind (arith, nat_tests)

-- one more digit
pub scanned-next : (text : List ℕ) (place number : ℕ) → IsScanned text place number → place < length text →
    is_digit (get_or text place 0) ≡ true → IsScanned text (place + 1) (number * 10 + (get_or text place 0 - 48))
scanned-next text place number is below test =
    let told = digit-told (get_or text place 0) test in
    let value = digit_value_digit (get_or text place 0) told in
    let more = digits_value_more 10 text place below in record {
      within = omega (arith, below);
      digits = digits_more 10 text place below is.digits (omega (arith, value, told.1));
      value = omega (arith, more, is.value, value);
    }

-- ---- Numbers before a byte

-- what stands behind a text
at-seam : (xs : List ℕ) (c : ℕ) (ys : List ℕ) → get_or (xs ++ (c ∷ ys)) (length xs) 0 ≡ c
at-seam [] c ys = refl
at-seam (x ∷ xs) c ys = at-seam xs c ys

drop-seam : (xs ys : List ℕ) → drop (length xs) (xs ++ ys) ≡ ys
drop-seam [] ys = refl
drop-seam (x ∷ xs) ys = drop-seam xs ys

module _ (text : List ℕ) (place number byte n : ℕ) (rest : List ℕ) (is : IsScanned text place number) (stops : Stops text place)
    (few : place ≤ 19) (low : byte < 48) (small : IsShort n) (same : text ≡ decimal n ++ (byte ∷ rest)) where
  -- a number's digits are all that were read
  number-length : place ≡ length (decimal n)
  number-length =
      let digits = (decimal_is_IsNumeral_wide n (omega (arith, small))).0.1 in
      let size : length text ≡ length (decimal n) + suc (length rest) = ap length same ∙ length-append (decimal n) (byte ∷ rest) in
      let most = length-decimal-le_wide 19 n (omega arith) small (omega (arith, small)) in
      elim (cases_lt place (length (decimal n))) [
        | inl before ↦
            let there : get_or text place 0 ≡ get_or (decimal n) place 0 =
            ap (λ (t : List ℕ). get_or t place 0) same ∙ get_or_append_left (decimal n) (byte ∷ rest) 0 place before in
            let digit = digit_at (decimal n) place digits before in
            absurd (stops (omega (arith, before, most)) (omega (arith, before, size))
            (digit-tells (get_or text place 0) (omega (arith, there, digit.0)) (omega (arith, there, digit.1))))
        | inr behind ↦ elim (cases_lt (length (decimal n)) place) [
          | inl after ↦
              let there : get_or text (length (decimal n)) 0 ≡ byte =
              ap (λ (t : List ℕ). get_or t (length (decimal n)) 0) same ∙ at-seam (decimal n) byte rest in
              let front = get_or-take place text (length (decimal n)) 0 after in
              let taken = length-take-le place text is.within in
              let digit = digit_at (take place text) (length (decimal n)) is.digits (omega (arith, after, taken)) in
              absurd (omega (arith, digit.0, front, there, low))
          | inr last ↦ omega (arith, behind, last)
        ]
      ]

  -- so they are it
  pub number-front : take place text ≡ decimal n
  number-front =
      ap (take place) same ∙ take_at (decimal n) (byte ∷ rest) place (sym number-length)

  -- what is behind them is the byte and what follows it
  pub number-back : drop place text ≡ byte ∷ rest
  number-back =
      ap (λ k. drop k text) number-length ∙ ap (drop (length (decimal n))) same ∙ drop-seam (decimal n) (byte ∷ rest)

-- the digits of a number are plain
pub decimal-plain : (n : ℕ) → IsShort n → IsPlain (decimal n)
decimal-plain zero small = subst IsPlain (sym (decimal_digit 0 (omega arith))) (omega arith, λ zero_first. refl)
decimal-plain (suc n) small =
    let first = first_decimal (suc n) (omega arith) (omega (arith, small)) in
    ((decimal_is_IsNumeral_wide (suc n) (omega (arith, small))).0.0, λ zero_first. absurd (omega (arith, first, zero_first)))

-- plain digits are those of their number
pub scanned-decimal : (text : List ℕ) (place number : ℕ) → IsScanned text place number → place ≤ 19 → IsPlain (take place text) →
    decimal number ≡ take place text
scanned-decimal text place number is few plain =
    let low = scanned-below text place number 19 is few in
    ap decimal is.value
    ∙ decimal-digits_value own (take place text) is.digits plain.0 plain.1 (omega (arith, is.value, low))
