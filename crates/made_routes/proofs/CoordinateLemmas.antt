-- The numbers of a grid's text are read as what they were.
use Rattle.std.proofs.Common.{◌≡◌, ℕ, zero, suc, ◌+◌, ◌-◌, ◌*◌, ◌/◌, ◌%◌, ◌^◌, ◌<◌, ◌≤◌, true, false, cond, List, [], ◌∷◌, length, take, drop, nat_le, ℤ, pos, unsigned_abs, refl, sym, ap, ◌∙◌, arith, lit<, Some, None, Ok, Err}
use Rattle.std.specs.Prelude.{◌==◌}
use Rattle.std.proofs.Math.Arith.{mod-mul}
use Rattle.std.proofs.Math.Nat.{pow-succ', one-le-pow}
use Rattle.std.proofs.lemmas.Bool.{and_parts}
use Rattle.std.proofs.lemmas.Bool.Decides.{nat_tests}
use Rattle.std.proofs.lemmas.Fmt.{digits_decimal, digits_value-decimal, decimal_nonempty}
use Rattle.std.specs.Char.{is_ascii_digit}
use Rattle.std.specs.Fmt.{decimal}
use Rattle.std.specs.Str.{all_ascii_digits}
use Rattle.fixed_num.specs.Coordinate.{coordinate_of}
use Rattle.fixed_num.specs.Decimal.{Decimal, digits_after, leading_digits, parts_from, parts_of, rounded_millionths, tail_of, unsigned_parts, value_from, with_sign}
use Rattle.fixed_num.specs.Text.{last_digits, mil6}
use Rattle.fixed_num.specs.declared.coordinate.CoordError.TheVariants.{NotDecimal, OutOfRange}
use Rattle.made_routes.proofs.NumberLemmas.{last_digits-digits, mil6-small, numerals}

-- ---- Whole numbers

-- digits alone are all at the front
leading-all : (ds : List ℕ) → all_ascii_digits ds ≡ true → leading_digits ds ≡ length ds
leading-all [] h = refl
leading-all (d ∷ ds) h =
    let parts : (is_ascii_digit d ≡ true) × (all_ascii_digits ds ≡ true) = and_parts _ _ h in
    let rest = leading-all ds parts.1 in
    ap (λ v. cond v (1 + leading_digits ds) 0) parts.0 ∙ omega (arith, rest)

-- so many at the front are all
take-all : (xs : List ℕ) → take (length xs) xs ≡ xs
take-all [] = refl
take-all (x ∷ xs) = ap (λ (l : List ℕ). x ∷ l) (take-all xs)

-- and nothing is left
drop-all : (xs : List ℕ) → drop (length xs) xs ≡ []
drop-all [] = refl
drop-all (x ∷ xs) = drop-all xs

-- the decimal of digits alone
abbrev pub whole_decimal : List ℕ → Decimal
whole_decimal ds = record { is_negative = false; whole = ds; fraction = [] }

-- digits alone are the parts of their text
digits-parts : (ds : List ℕ) → all_ascii_digits ds ≡ true → 0 < length ds → parts_of ds ≡ Some (whole_decimal ds)
digits-parts [] h some = absurd (omega arith)
digits-parts (d ∷ ds) h some =
    let parts : (is_ascii_digit d ≡ true) × (all_ascii_digits ds ≡ true) = and_parts _ _ h in
    let plus : (d == 45) ≡ false = not-minus d parts.0 in
    ap (λ v. cond v (unsigned_parts true ds) (unsigned_parts false (d ∷ ds))) plus
    ∙ ap (λ n. parts_from false (take n (d ∷ ds)) (tail_of (drop n (d ∷ ds)))) (leading-all (d ∷ ds) h)
    ∙ ap (λ t. parts_from false t (tail_of (drop (length (d ∷ ds)) (d ∷ ds)))) (take-all (d ∷ ds))
    ∙ ap (λ t. parts_from false (d ∷ ds) (tail_of t)) (drop-all (d ∷ ds))
  where
    not-minus : (d : ℕ) → is_ascii_digit d ≡ true → (d == 45) ≡ false
    not-minus d h = grind (arith, nat_tests)

-- the parts of a number's digits
pub decimal-parts : (n : ℕ) → n < 2 ^ 64 → parts_of (decimal n) ≡ Some (whole_decimal (decimal n))
decimal-parts n few = digits-parts (decimal n) (digits_decimal numerals n few) (decimal_nonempty n few)

-- they spell it
pub decimal-value : (n : ℕ) → n < 2 ^ 64 → digits_after 0 (decimal n) ≡ n
decimal-value n few = digits_value-decimal numerals n few

-- ---- Coordinates

-- the last digits spell what is left of a number
digits_after-last_digits : (w k n : ℕ) → digits_after w (last_digits k n) ≡ w * 10 ^ k + n % 10 ^ k
digits_after-last_digits w zero n = omega arith
digits_after-last_digits w (suc k) n =
    ap (λ g. digits_after (10 * w + g) (last_digits k n)) (same (n / 10 ^ k % 10))
    ∙ digits_after-last_digits (10 * w + n / 10 ^ k % 10) k n
    ∙ one_more w (n / 10 ^ k % 10) (10 ^ k) (n % 10 ^ k)
    ∙ ap (λ r. w * (10 * 10 ^ k) + r) (sym (mod-mul n (lit< tt) (one-le-pow k 10 (lit< tt))))
    ∙ ap (λ p. w * p + n % p) (sym (pow-succ' 10 k))
  where
    same : (g : ℕ) → 48 + g - 48 ≡ g
    same g = omega arith

    one_more : (w g p r : ℕ) → (10 * w + g) * p + r ≡ w * (10 * p) + (g * p + r)
    one_more w g p r = omega arith

-- the decimal of millionths of less than one
abbrev small_decimal : ℕ → Decimal
small_decimal n = record { is_negative = false; whole = 48 ∷ []; fraction = last_digits 6 n }

-- its size
small-size : (n : ℕ) → n < 1000000 → rounded_millionths (small_decimal n) ≡ n
unfolding rounded_millionths
small-size n few =
    let value : digits_after 0 (last_digits 6 n) ≡ n = digits_after-last_digits 0 6 n ∙ omega (arith, few) in
    ap (λ m. (2 * m * 1000000 + 1000000) / 2000000) value ∙ omega arith

-- the parts of such a text
small-parts : (n : ℕ) → parts_of (48 ∷ 46 ∷ last_digits 6 n) ≡ Some (small_decimal n)
small-parts n = ap (λ v. parts_from false (48 ∷ []) (cond v (Some (last_digits 6 n)) None)) (last_digits-digits 6 n)

-- a size within the limit is a value
within : (n limit : ℕ) → n ≤ limit → (d : Decimal) → d.is_negative ≡ false → rounded_millionths d ≡ n →
    value_from rounded_millionths limit NotDecimal OutOfRange (Some d) ≡ Ok (pos n)
within n limit fits d plus size =
    let test : nat_le n limit ≡ true = grind (arith, nat_tests) in
    ap (λ m. cond (nat_le m limit) (Ok (with_sign d.is_negative m)) (Err OutOfRange)) size
    ∙ ap (λ v. cond v (Ok (with_sign d.is_negative n)) (Err OutOfRange)) test
    ∙ ap (λ v. Ok (with_sign v n)) plus

-- millionths of less than one are read as a coordinate
pub mil6-read : (most : ℤ) (n : ℕ) → n < 1000000 → 1000000 ≤ unsigned_abs most → coordinate_of most (mil6 (pos n)) ≡ Ok (pos n)
unfolding coordinate_of
mil6-read most n few large =
    ap (λ t. value_from rounded_millionths (unsigned_abs most) NotDecimal OutOfRange (parts_of t)) (mil6-small n few)
    ∙ ap (λ o. value_from rounded_millionths (unsigned_abs most) NotDecimal OutOfRange o) (small-parts n)
    ∙ within n (unsigned_abs most) (omega (arith, few, large)) (small_decimal n) refl (small-size n few)
