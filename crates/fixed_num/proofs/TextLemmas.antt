-- The texts of millionths, written and read again.
use Rattle.std.proofs.Common.{◌≡◌, ℕ, zero, suc, ◌+◌, ◌-◌, ◌*◌, ◌/◌, ◌%◌, ◌^◌, ◌<◌, ◌≤◌, true, false, ◌&&◌, List, ◌++◌, length, ℤ, pos, negsuc, ◌≤ℤ◌, unsigned_abs, refl, sym, ap, ◌∙◌, arith, rules, lit<}
use Rattle.std.proofs.Math.Arith.{mod-mul}
use Rattle.std.proofs.Math.Nat.{pow-succ', one-le-pow, mul-div_cancel}
use Rattle.std.proofs.lemmas.Bool.Decides.{nat_tests}
use Rattle.std.proofs.lemmas.Fmt.{digits_decimal, digits_value-decimal, decimal_nonempty}
use Rattle.std.proofs.lemmas.Int.{ints}
use Rattle.std.proofs.lemmas.Str.Parse.{IsNumeralModel, numerals_by_fold, tells_all_ascii_digits}
use Rattle.std.specs.Char.{is_ascii_digit}
use Rattle.std.specs.Fmt.{decimal}
use Rattle.std.specs.Int.{is_negative}
use Rattle.std.specs.Str.{all_ascii_digits}
use Rattle.fixed_num.specs.Decimal.{Decimal, Spells, SpellsValue, digits_after, cut_millionths, rounded_millionths, with_sign}
use Rattle.fixed_num.specs.Text.{last_digits, mil6}
use Rattle.fixed_num.proofs.RoundingLemmas.{digits_after-append, rounded_short}

-- ---- Digits

-- `digits_after` reads numerals
numerals : IsNumeralModel (λ ds. all_ascii_digits ds ≡ true) (digits_after 0)
numerals = numerals_by_fold _ tells_all_ascii_digits digits_after (search rules)

-- so many last digits are written
pub length-last_digits : (k n : ℕ) → length (last_digits k n) ≡ k
length-last_digits zero n = refl
length-last_digits (suc k) n = ap suc (length-last_digits k n)

-- they are digits
all_ascii_digits-last_digits : (k n : ℕ) → all_ascii_digits (last_digits k n) ≡ true
all_ascii_digits-last_digits zero n = refl
all_ascii_digits-last_digits (suc k) n =
    ap (λ v. v && all_ascii_digits (last_digits k n)) (digit_is (n / 10 ^ k % 10) (omega arith)) ∙ all_ascii_digits-last_digits k n
  where
    digit_is : (g : ℕ) → g < 10 → is_ascii_digit (48 + g) ≡ true
    digit_is g small = grind (arith, nat_tests)

-- they spell what is left of the number
digits_after-last_digits : (w k n : ℕ) → digits_after w (last_digits k n) ≡ w * 10 ^ k + n % 10 ^ k
digits_after-last_digits w zero n = omega arith
digits_after-last_digits w (suc k) n =
    ap (λ g. digits_after (10 * w + g) (last_digits k n)) (same (n / 10 ^ k % 10))
    ∙ digits_after-last_digits (10 * w + n / 10 ^ k % 10) k n
    ∙ one_more w (n / 10 ^ k % 10) (10 ^ k) (n % 10 ^ k)
    ∙ ap (λ r. w * (10 * 10 ^ k) + r) (sym (mod-mul n (lit< tt) (one-le-pow k 10 (lit< tt))))
    ∙ ap (λ p. w * p + n % p) (sym (pow-succ' 10 k))
  where
    same : (g : ℕ) → 48 + g - 48 ≡ g
    same g = omega arith

    one_more : (w g p r : ℕ) → (10 * w + g) * p + r ≡ w * (10 * p) + (g * p + r)
    one_more w g p r = omega arith

-- ---- The text read again

-- the parts of the text of a count of millionths
printed : ℤ → Decimal
printed n = record {
  is_negative = is_negative n;
  whole = decimal (unsigned_abs n / 1000000);
  fraction = last_digits 6 (unsigned_abs n % 1000000);
}

-- the digits of the whole part and of the decimals spell the size
digits_are : (n : ℕ) → n ≤ 1000000000000000 → digits_after 0 (decimal (n / 1000000) ++ last_digits 6 (n % 1000000)) ≡ n
digits_are n fits =
    digits_after-append 0 (decimal (n / 1000000)) (last_digits 6 (n % 1000000))
    ∙ ap (λ w. digits_after w (last_digits 6 (n % 1000000))) (digits_value-decimal numerals (n / 1000000) (omega arith))
    ∙ digits_after-last_digits (n / 1000000) 6 (n % 1000000)
    ∙ omega arith

-- the size and the sign give the number back
with_sign_is : (n : ℤ) → with_sign (is_negative n) (unsigned_abs n) ≡ n
with_sign_is (pos n) = let test : is_negative (pos n) ≡ false = grind (arith, nat_tests) in ap (λ v. with_sign v n) test
with_sign_is (negsuc n) = refl

-- the text spells those parts
Spells-mil6 : (text : List ℕ) (n : ℤ) → unsigned_abs n ≤ 1000000000000000 → text ≡ mil6 n → Spells text (printed n)
unfolding mil6 printed
Spells-mil6 text n fits text_is = record {
  valid = record {
    some_whole = decimal_nonempty (unsigned_abs n / 1000000) (omega arith);
    whole_digits = digits_decimal numerals (unsigned_abs n / 1000000) (omega arith);
    fraction_digits = all_ascii_digits-last_digits 6 (unsigned_abs n % 1000000);
  };
  text_is = text_is;
}

-- its size is cut to that of the number
cut_millionths-printed : (n : ℤ) → unsigned_abs n ≤ 1000000000000000 → cut_millionths (printed n) ≡ unsigned_abs n
unfolding cut_millionths printed
cut_millionths-printed n fits =
    ap (λ v. v * 1000000 / 1000000) (digits_are (unsigned_abs n) fits) ∙ mul-div_cancel (unsigned_abs n) (lit< tt)

-- no more than six decimals are printed
rounded_millionths-printed : (n : ℤ) → rounded_millionths (printed n) ≡ cut_millionths (printed n)
unfolding printed
rounded_millionths-printed n =
    rounded_short (printed n) (omega (arith, length-last_digits 6 (unsigned_abs n % 1000000)))

-- a literal that spells the text of a number has that number
pub SpellsValue-mil6_cut : (text : List ℕ) (n : ℤ) → unsigned_abs n ≤ 1000000000000000 → text ≡ mil6 n → SpellsValue cut_millionths text n
unfolding printed
SpellsValue-mil6_cut text n fits text_is =
    let size = cut_millionths-printed n fits in
    (printed n, Spells-mil6 text n fits text_is, sym (ap (λ s. with_sign (is_negative n) s) size ∙ with_sign_is n))

-- so has a coordinate
pub SpellsValue-mil6_rounded : (text : List ℕ) (n : ℤ) → unsigned_abs n ≤ 1000000000000000 → text ≡ mil6 n →
    SpellsValue rounded_millionths text n
unfolding printed
SpellsValue-mil6_rounded text n fits text_is =
    let size = rounded_millionths-printed n ∙ cut_millionths-printed n fits in
    (printed n, Spells-mil6 text n fits text_is, sym (ap (λ s. with_sign (is_negative n) s) size ∙ with_sign_is n))

-- a coordinate within the most is in a number's range
pub coordinate_in_range : (most n : ℤ) → pos 0 ≤ℤ most → most ≤ℤ pos 180000000 → unsigned_abs n ≤ unsigned_abs most →
    unsigned_abs n ≤ 1000000000000000
coordinate_in_range (pos m) n positive fits small = omega (arith, ints)
coordinate_in_range (negsuc m) n positive fits small = absurd (omega (arith, ints))
