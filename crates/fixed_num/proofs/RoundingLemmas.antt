-- What is cut and what is rounded, by the digits that are kept.
use Rattle.std.proofs.Common.{◌≡◌, ℕ, zero, suc, ◌+◌, ◌-◌, ◌*◌, ◌/◌, ◌^◌, ◌<◌, ◌≤◌, min, Bool, true, false, List, [], ◌∷◌, ◌++◌, length, get_or, take, drop, refl, sym, ap, ◌∙◌, subst, arith, inl, inr, lit<}
use Rattle.std.proofs.Math.Nat.{mul_assoc, mul-div_cancel, mul-div-mul_right, mul-add-div_right, div-eq_of_lt-le, pow-suc, one-le-pow, mul-le-mul_right, mul-one}
use Rattle.std.proofs.lemmas.Bool.{and_parts, cases_lt}
use Rattle.std.proofs.lemmas.Bool.Decides.{nat_tests}
use Rattle.std.proofs.lemmas.Nat.{div-mul-add, pow-add}
use Rattle.std.specs.Char.{is_ascii_digit}
use Rattle.std.specs.Str.{all_ascii_digits}
use Rattle.std.proofs.Math.Seq.{take-length}
use Rattle.std.proofs.Common.{add-zero}
use Rattle.std.proofs.lemmas.List.{drop_more, take-append-drop, length-drop}
use Rattle.std.proofs.Common.{◌&&◌, append_assoc}
use Rattle.fixed_num.specs.Decimal.{Decimal, digits_after, cut_millionths, rounded_millionths}
use Rattle.fixed_num.proofs.DigitLemmas.{min-digits_after}
use Rattle.fixed_num.specs.declared.decimal.TheConstants.{POWERS as powers}

-- ---- Quotients

-- up to six decimals: nothing is cut
cut_short : (v p s : ℕ) → 0 < p → s * p ≡ 1000000 → v * 1000000 / p ≡ v * s
cut_short v p s some e = ap (λ t. v * t / p) (sym e) ∙ ap (λ t. t / p) (sym (mul_assoc v s p)) ∙ mul-div_cancel (v * s) some

-- more decimals: those beyond the sixth are cut
cut_long : (d r p : ℕ) → r < p → (d * p + r) * 1000000 / (p * 1000000) ≡ d
cut_long d r p less = mul-div-mul_right (d * p + r) p (lit< tt) ∙ div-mul-add d p r less

-- up to six decimals: nothing is rounded
round_short : (v p s : ℕ) → 0 < p → s * p ≡ 1000000 → (2 * v * 1000000 + p) / (2 * p) ≡ v * s
round_short v p s some e =
    let same : 2 * v * (s * p) + p ≡ v * s * (2 * p) + p = omega arith in
    ap (λ t. (2 * v * t + p) / (2 * p)) (sym e) ∙ ap (λ t. t / (2 * p)) same ∙ div-mul-add (v * s) (2 * p) p (omega arith)

-- more decimals: what is beyond the sixth counts for one where it is at least a half
round_up : (r p : ℕ) → r < p → p ≤ 2 * r → (2 * r + p) / (2 * p) ≡ 1
round_up r p less half = div-eq_of_lt-le (2 * p) (omega arith) (omega arith)

-- it counts for nothing where it is less
round_down : (r p : ℕ) → 2 * r < p → (2 * r + p) / (2 * p) ≡ 0
round_down r p less = div-eq_of_lt-le (2 * p) (omega arith) (omega arith)

-- the two together with the decimals that are kept
round_long : (d r p : ℕ) → 0 < p → (2 * (d * p + r) * 1000000 + p * 1000000) / (2 * (p * 1000000)) ≡ d + (2 * r + p) / (2 * p)
round_long d r p some =
    let above : 2 * (d * p + r) * 1000000 + p * 1000000 ≡ (d * (2 * p) + (2 * r + p)) * 1000000 = omega arith in
    let below : 2 * (p * 1000000) ≡ 2 * p * 1000000 = omega arith in
    ap (λ t. t / (2 * (p * 1000000))) above ∙ ap (λ t. (d * (2 * p) + (2 * r + p)) * 1000000 / t) below
    ∙ mul-div-mul_right (d * (2 * p) + (2 * r + p)) (2 * p) (lit< tt) ∙ mul-add-div_right (omega arith) d (2 * r + p)

-- ---- Digits

-- digits are read one part after the other
pub digits_after-append : (n : ℕ) (xs ys : List ℕ) → digits_after n (xs ++ ys) ≡ digits_after (digits_after n xs) ys
digits_after-append n [] ys = refl
digits_after-append n (x ∷ xs) ys = digits_after-append (10 * n + (x - 48)) xs ys

-- a number before digits counts a power of ten for them
pub digits_after_from : (n : ℕ) (ys : List ℕ) → digits_after n ys ≡ n * 10 ^ length ys + digits_after 0 ys
digits_after_from n [] = omega arith
digits_after_from n (y ∷ ys) =
    one_more n (y - 48) (10 ^ length ys) _ _ (digits_after 0 ys) (digits_after_from (10 * n + (y - 48)) ys)
    (digits_after_from (10 * 0 + (y - 48)) ys)
    ∙ ap (λ p. n * p + digits_after 0 (y ∷ ys)) (sym (pow-suc 10 (length ys)))
  where
    one_more : (n g p a b r : ℕ) → a ≡ (10 * n + g) * p + r → b ≡ (10 * 0 + g) * p + r → a ≡ n * (p * 10) + b
    one_more n g p a b r a_is b_is = omega arith

-- a digit counts at most nine
digit-le : (c : ℕ) → is_ascii_digit c ≡ true → c - 48 ≤ 9
digit-le c digit = grind (arith, nat_tests)

-- so many digits spell less than that power of ten
digits_after-lt : (ys : List ℕ) → all_ascii_digits ys ≡ true → digits_after 0 ys < 10 ^ length ys
digits_after-lt [] digits = lit< tt
digits_after-lt (y ∷ ys) digits =
    let parts : (is_ascii_digit y ≡ true) × (all_ascii_digits ys ≡ true) = and_parts _ _ digits in
    subst (λ (p : ℕ). digits_after 0 (y ∷ ys) < p) (sym (pow-suc 10 (length ys)))
    (one_more (y - 48) (10 ^ length ys) (digits_after 0 ys) _
    (digits_after_from (10 * 0 + (y - 48)) ys) (digit-le y parts.0) (digits_after-lt ys parts.1))
  where
    one_more : (g p r b : ℕ) → b ≡ (10 * 0 + g) * p + r → g ≤ 9 → r < p → b < p * 10
    one_more g p r b b_is digit less = omega (arith, mul-le-mul_right p digit)

-- digits are digits in front of any place and behind it
parts_of_digits : (k : ℕ) (ys : List ℕ) → all_ascii_digits ys ≡ true →
    (all_ascii_digits (take k ys) ≡ true) × (all_ascii_digits (drop k ys) ≡ true)
parts_of_digits zero ys digits = (refl, digits)
parts_of_digits (suc k) [] digits = (refl, refl)
parts_of_digits (suc k) (y ∷ ys) digits =
    let parts : (is_ascii_digit y ≡ true) × (all_ascii_digits ys ≡ true) = and_parts _ _ digits in
    let rest : (all_ascii_digits (take k ys) ≡ true) × (all_ascii_digits (drop k ys) ≡ true) = parts_of_digits k ys parts.1 in
    (ap (λ v. v && all_ascii_digits (take k ys)) parts.0 ∙ rest.0, rest.1)

-- ---- The sizes

-- the power of ten that is left for the decimals that aren't written
power_left : (k : ℕ) → k ≤ 6 → get_or powers (6 - k) 0 * 10 ^ k ≡ 1000000
power_left zero few = refl
power_left (suc zero) few = refl
power_left (suc (suc zero)) few = refl
power_left (suc (suc (suc zero))) few = refl
power_left (suc (suc (suc (suc zero)))) few = refl
power_left (suc (suc (suc (suc (suc zero))))) few = refl
power_left (suc (suc (suc (suc (suc (suc zero)))))) few = refl
power_left (suc (suc (suc (suc (suc (suc (suc k))))))) few = absurd (omega arith)

-- digits that are cut into two parts
digits_split : (w f : List ℕ) (k : ℕ) →
    digits_after 0 (w ++ f) ≡ digits_after 0 (w ++ take k f) * 10 ^ length (drop k f) + digits_after 0 (drop k f)
digits_split w f k =
    ap (λ t. digits_after 0 (w ++ t)) (sym (take-append-drop k f))
    ∙ ap (λ t. digits_after 0 t) (sym (append_assoc w (take k f) (drop k f)))
    ∙ digits_after-append 0 (w ++ take k f) (drop k f)
    ∙ digits_after_from (digits_after 0 (w ++ take k f)) (drop k f)

-- where more than six decimals are written, the power of ten splits as they do
long_power : (f : List ℕ) → 6 < length f → 10 ^ length f ≡ 10 ^ length (drop 6 f) * 1000000
long_power f more =
    let both : length f ≡ length (drop 6 f) + 6 = omega (arith, length-drop 6 f) in
    ap (λ n. 10 ^ n) both ∙ pow-add 10 (length (drop 6 f)) 6

-- where more than six decimals are written, the first six are kept
long_is : (w f : List ℕ) → 6 < length f → all_ascii_digits f ≡ true →
    digits_after 0 (w ++ f) * 1000000 / 10 ^ length f ≡ digits_after 0 (w ++ take 6 f)
long_is w f more digits =
    ap (λ p. digits_after 0 (w ++ f) * 1000000 / p) (long_power f more)
    ∙ ap (λ v. v * 1000000 / (10 ^ length (drop 6 f) * 1000000)) (digits_split w f 6)
    ∙ cut_long (digits_after 0 (w ++ take 6 f)) (digits_after 0 (drop 6 f)) (10 ^ length (drop 6 f))
    (digits_after-lt (drop 6 f) (parts_of_digits 6 f digits).1)

-- the size is that of the decimals that are kept, with the power of ten that is left
pub cut_is : (w f : List ℕ) (kept : ℕ) → kept ≡ min (length f) 6 → all_ascii_digits f ≡ true →
    digits_after 0 (w ++ take kept f) * get_or powers (6 - kept) 0 ≡ digits_after 0 (w ++ f) * 1000000 / 10 ^ length f
cut_is w f kept kept_is digits =
    elim (cases_lt 6 (length f)) [
      | inl more ↦
          let six : kept ≡ 6 = omega arith in
          ap (λ k. digits_after 0 (w ++ take k f) * get_or powers (6 - k) 0) six
          ∙ mul-one (digits_after 0 (w ++ take 6 f))
          ∙ sym (long_is w f more digits)
      | inr few ↦
          let whole : kept ≡ length f = omega arith in
          ap (λ k. digits_after 0 (w ++ take k f) * get_or powers (6 - k) 0) whole
          ∙ ap (λ t. digits_after 0 (w ++ t) * get_or powers (6 - length f) 0) (take-length f)
          ∙ sym (cut_short (digits_after 0 (w ++ f)) (10 ^ length f) (get_or powers (6 - length f) 0)
          (one-le-pow (length f) 10 (lit< tt)) (power_left (length f) few))
    ]

-- what the steps of the code come to, held at the bound
pub held_product : (d s : ℕ) → 1 ≤ s →
    min (min (min d 10000000000000000 * s) 18446744073709551615) 10000000000000000 ≡ min (d * s) 10000000000000000
held_product d s some =
    elim (cases_lt d 10000000000000000) [
      | inl below ↦
          let same : min d 10000000000000000 ≡ d = omega arith in
          ap (λ n. min (min (n * s) 18446744073709551615) 10000000000000000) same ∙ omega arith
      | inr above ↦
          let same : min d 10000000000000000 ≡ 10000000000000000 = omega arith in
          ap (λ n. min (min (n * s) 18446744073709551615) 10000000000000000) same ∙ omega (arith, mul-le-mul_right s above, some)
    ]

-- the power that is left is at least one
pub power_left-ge : (k : ℕ) → k ≤ 6 → 1 ≤ get_or powers (6 - k) 0
power_left-ge k few = some_factor (get_or powers (6 - k) 0) (10 ^ k) (power_left k few)
  where
    some_factor : (s p : ℕ) → s * p ≡ 1000000 → 1 ≤ s
    some_factor zero p e = absurd (omega arith)
    some_factor (suc s) p e = omega arith

-- what reading the digits in two parts comes to, held at the bound each time
pub held_digits : (w f : List ℕ) (whole number : ℕ) → whole ≡ min (digits_after 0 w) 10000000000000000 →
    number ≡ min (digits_after whole f) 10000000000000000 → number ≡ min (digits_after 0 (w ++ f)) 10000000000000000
held_digits w f whole number whole_is number_is =
    number_is
    ∙ ap (λ n. min (digits_after n f) 10000000000000000) (whole_is ∙ turned (digits_after 0 w))
    ∙ min-digits_after 10000000000000000 (digits_after 0 w) f
    ∙ ap (λ n. min n 10000000000000000) (sym (digits_after-append 0 w f))
  where
    turned : (n : ℕ) → min n 10000000000000000 ≡ min 10000000000000000 n
    turned n = omega arith

-- ---- Rounding

-- the first decimal that isn't kept, as what it counts with those after it
tail_digits : (f : List ℕ) → 6 < length f →
    digits_after 0 (drop 6 f) ≡ (10 * 0 + (get_or f 6 0 - 48)) * 10 ^ length (drop 7 f) + digits_after 0 (drop 7 f)
tail_digits f more =
    ap (λ t. digits_after 0 t) (drop_more f 6 0 more) ∙ digits_after_from (10 * 0 + (get_or f 6 0 - 48)) (drop 7 f)

-- the power of ten of the decimals that aren't kept
tail_power : (f : List ℕ) → 6 < length f → 10 ^ length (drop 6 f) ≡ 10 ^ length (drop 7 f) * 10
tail_power f more = ap (λ t. 10 ^ length t) (drop_more f 6 0 more) ∙ pow-suc 10 (length (drop 7 f))

-- a five or more there is at least a half
half_or_more : (g t r p n : ℕ) → 5 ≤ g → p ≡ t * 10 → n ≡ (10 * 0 + g) * t + r → p ≤ 2 * n
half_or_more g t r p n five p_is n_is = omega (arith, mul-le-mul_right t five)

-- a four or less there is less than a half
less_than_half : (g t r p n : ℕ) → g ≤ 4 → r < t → p ≡ t * 10 → n ≡ (10 * 0 + g) * t + r → 2 * n < p
less_than_half g t r p n four less p_is n_is = omega (arith, mul-le-mul_right t four)

-- up to six decimals: what is rounded is what is cut
pub rounded_short : (d : Decimal) → length d.fraction ≤ 6 → rounded_millionths d ≡ cut_millionths d
unfolding rounded_millionths cut_millionths
rounded_short d few =
    let v : ℕ = digits_after 0 (d.whole ++ d.fraction) in
    let p : ℕ = 10 ^ length d.fraction in
    let s : ℕ = get_or powers (6 - length d.fraction) 0 in
    let some : 0 < p = one-le-pow (length d.fraction) 10 (lit< tt) in
    round_short v p s some (power_left (length d.fraction) few) ∙ sym (cut_short v p s some (power_left (length d.fraction) few))

-- more decimals: what is rounded is what is cut, and what the decimals that aren't kept come to
rounded_long : (d : Decimal) → 6 < length d.fraction → all_ascii_digits d.fraction ≡ true → rounded_millionths d
    ≡ cut_millionths d + (2 * digits_after 0 (drop 6 d.fraction) + 10 ^ length (drop 6 d.fraction)) / (2 * 10 ^ length (drop 6 d.fraction))
unfolding rounded_millionths cut_millionths
rounded_long d more digits =
    let f : List ℕ = d.fraction in
    let p : ℕ = 10 ^ length (drop 6 f) in
    let n : ℕ = digits_after 0 (d.whole ++ take 6 f) in
    let r : ℕ = digits_after 0 (drop 6 f) in
    ap (λ t. (2 * digits_after 0 (d.whole ++ f) * 1000000 + t) / (2 * t)) (long_power f more)
    ∙ ap (λ v. (2 * v * 1000000 + p * 1000000) / (2 * (p * 1000000))) (digits_split d.whole f 6)
    ∙ round_long n r p (one-le-pow (length (drop 6 f)) 10 (lit< tt))
    ∙ ap (λ c. c + (2 * r + p) / (2 * p)) (sym (long_is d.whole f more digits))

-- a five or more at the seventh decimal rounds up
pub rounded_up : (d : Decimal) → 6 < length d.fraction → all_ascii_digits d.fraction ≡ true → 53 ≤ get_or d.fraction 6 0 →
    rounded_millionths d ≡ cut_millionths d + 1
rounded_up d more digits five =
    let f : List ℕ = d.fraction in
    let half : 10 ^ length (drop 6 f) ≤ 2 * digits_after 0 (drop 6 f) =
    half_or_more (get_or f 6 0 - 48) (10 ^ length (drop 7 f)) (digits_after 0 (drop 7 f)) _ _ (omega arith) (tail_power f more)
    (tail_digits f more) in
    rounded_long d more digits
    ∙ ap (λ n. cut_millionths d + n)
    (round_up (digits_after 0 (drop 6 f)) (10 ^ length (drop 6 f)) (digits_after-lt (drop 6 f) (parts_of_digits 6 f digits).1) half)

-- a four or less there doesn't
pub rounded_down : (d : Decimal) → 6 < length d.fraction → all_ascii_digits d.fraction ≡ true → get_or d.fraction 6 0 < 53 →
    rounded_millionths d ≡ cut_millionths d
rounded_down d more digits four =
    let f : List ℕ = d.fraction in
    let less : 2 * digits_after 0 (drop 6 f) < 10 ^ length (drop 6 f) =
    less_than_half (get_or f 6 0 - 48) (10 ^ length (drop 7 f)) (digits_after 0 (drop 7 f)) _ _ (omega arith)
    (digits_after-lt (drop 7 f) (parts_of_digits 7 f digits).1) (tail_power f more) (tail_digits f more) in
    rounded_long d more digits
    ∙ ap (λ n. cut_millionths d + n) (round_down (digits_after 0 (drop 6 f)) (10 ^ length (drop 6 f)) less)
    ∙ add-zero (cut_millionths d)

-- where the seventh decimal is no five or more, what is rounded is what is cut
pub rounded_same : (d : Decimal) → all_ascii_digits d.fraction ≡ true →
    ((6 < length d.fraction) × (53 ≤ get_or d.fraction 6 0) → ◌≡◌ {A = Bool} false true) →
    rounded_millionths d ≡ cut_millionths d
rounded_same d digits no_five =
    elim (cases_lt 6 (length d.fraction)) [
      | inl more ↦
          elim (cases_lt (get_or d.fraction 6 0) 53) [
            | inl four ↦ rounded_down d more digits four
            | inr five ↦ let wrong : ◌≡◌ {A = Bool} false true = no_five (more, five) in cc
          ]
      | inr few ↦ rounded_short d few
    ]
