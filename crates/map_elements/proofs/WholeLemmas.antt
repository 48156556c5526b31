-- A whole number is read digit by digit.
use Rattle.std.proofs.Common.{◌≡◌, ℕ, suc, ◌+◌, ◌-◌, ◌*◌, ◌<◌, Bool, true, false, cond, ◌&&◌, List, [], ◌∷◌, length, take, drop, Option, Some, None, refl, sym, ap, ◌∙◌, arith, get_or, length-drop}
use mathlib.Core.Bool.{false≢true}
use Rattle.std.specs.Prelude.{◌==◌, nat_le, if◌then◌else◌}
use Rattle.std.specs.Char.{is_ascii_digit}
use Rattle.std.specs.Str.{all_ascii_digits}
use Rattle.std.proofs.lemmas.List.{take_all, drop_all, drop_more}
use Rattle.std.proofs.lemmas.Bool.Decides.{nat_tests}
use Rattle.fixed_num.specs.Decimal.{digits_after, leading_digits, is_fraction, tail_of, parts_from, unsigned_parts, with_sign}
use Rattle.map_elements.specs.Fields.{with_some, whole_part}
use Rattle.map_elements.specs.Whole.{size_from, size_in, signed_size}

-- a number above 2^63 stays above it
pub size_from-large : (n : ℕ) (ds : List ℕ) → 9223372036854775808 < n → size_from n ds ≡ None
size_from-large n [] large =
    let beyond : nat_le n 9223372036854775808 ≡ false = grind (arith, nat_tests, large) in
    ap (λ b. if b then Some n else None) beyond
size_from-large n (d ∷ ds) large = by_digit (is_ascii_digit d) (size_from-large (10 * n + (d - 48)) ds (omega (arith, large)))
  where
    by_digit : (b : Bool) → size_from (10 * n + (d - 48)) ds ≡ None → (if b then size_from (10 * n + (d - 48)) ds else None) ≡ None
    by_digit true more = more
    by_digit false more = refl

-- where all bytes are digits, the size is their number
size_from-digits : (n : ℕ) (ds : List ℕ) → all_ascii_digits ds ≡ true →
    size_from n ds ≡ (if nat_le (digits_after n ds) 9223372036854775808 then Some (digits_after n ds) else None)
size_from-digits n [] all = refl
size_from-digits n (d ∷ ds) all =
    elim (is_ascii_digit d) as (λ v. (v && all_ascii_digits ds) ≡ true → (if v then size_from (10 * n + (d - 48)) ds else None)
    ≡ (if nat_le (digits_after (10 * n + (d - 48)) ds) 9223372036854775808 then Some (digits_after (10 * n + (d - 48)) ds) else None)) [
      | true ↦ λ h. size_from-digits (10 * n + (d - 48)) ds h
      | false ↦ λ h. absurd (false≢true h)
    ] all

-- where one isn't, there is no size
size_from-other : (n : ℕ) (ds : List ℕ) → all_ascii_digits ds ≡ false → size_from n ds ≡ None
size_from-other n [] all = absurd (false≢true (sym all))
size_from-other n (d ∷ ds) all =
    elim (is_ascii_digit d) as (λ v. (v && all_ascii_digits ds) ≡ false → (if v then size_from (10 * n + (d - 48)) ds else None) ≡ None) [
      | true ↦ λ h. size_from-other (10 * n + (d - 48)) ds h
      | false ↦ λ h. refl
    ] all

-- where all bytes are digits, all stand at the front
lead_all : (ds : List ℕ) → all_ascii_digits ds ≡ true → leading_digits ds ≡ length ds
lead_all [] all = refl
lead_all (d ∷ ds) all =
    elim (is_ascii_digit d) as (λ v. (v && all_ascii_digits ds) ≡ true → cond v (1 + leading_digits ds) 0 ≡ suc (length ds)) [
      | true ↦ λ h. omega (arith, lead_all ds h)
      | false ↦ λ h. absurd (false≢true h)
    ] all

-- where one isn't, fewer do
lead_less : (ds : List ℕ) → all_ascii_digits ds ≡ false → leading_digits ds < length ds
lead_less [] all = absurd (false≢true (sym all))
lead_less (d ∷ ds) all =
    elim (is_ascii_digit d) as (λ v. (v && all_ascii_digits ds) ≡ false → cond v (1 + leading_digits ds) 0 < suc (length ds)) [
      | true ↦ λ h. omega (arith, lead_less ds h)
      | false ↦ λ h. omega arith
    ] all

-- where something stands behind the digits, there is no whole number
tail_none : (negative : Bool) (whole rest : List ℕ) → 0 < length rest →
    with_some (parts_from negative whole (tail_of rest)) whole_part ≡ None
tail_none negative whole [] some = absurd (omega (arith, some))
tail_none negative [] (c ∷ cs) some = refl
tail_none negative (w ∷ ws) (c ∷ []) some =
    elim (c == 46) as (λ v. with_some (parts_from negative (w ∷ ws) (if v && false then Some [] else None)) whole_part ≡ None) [
      | true ↦ refl
      | false ↦ refl
    ]
tail_none negative (w ∷ ws) (c ∷ d ∷ ds) some =
    elim ((c == 46) && is_fraction (d ∷ ds))
    as (λ v. with_some (parts_from negative (w ∷ ws) (if v then Some (d ∷ ds) else None)) whole_part ≡ None) [
      | true ↦ refl
      | false ↦ refl
    ]

-- what is above 2^63 fits with neither sign
unfit : (negative : Bool) (size : ℕ) → nat_le size 9223372036854775808 ≡ false → signed_size negative size ≡ None
unfit true size e = ap (λ b. if b then Some (with_sign true size) else None) e
unfit false size e =
    let f : nat_le size 9223372036854775807 ≡ false = grind (arith, nat_tests, e) in
    ap (λ b. if b then Some (with_sign false size) else None) f

-- a size below 2^63 has its sign, and a larger one has none
signed_by : (negative : Bool) (size : ℕ) → signed_size negative size
    ≡ with_some (if nat_le size 9223372036854775808 then Some size else None) (signed_size negative)
signed_by negative size =
    elim (nat_le size 9223372036854775808) as (λ v. nat_le size 9223372036854775808 ≡ v →
    signed_size negative size ≡ with_some (if v then Some size else None) (signed_size negative)) [
      | true ↦ λ e. refl
      | false ↦ λ e. unfit negative size e
    ] refl

-- the whole number of the parts of a text is that of its digits
pub whole_digits : (negative : Bool) (ds : List ℕ) →
    with_some (unsigned_parts negative ds) whole_part ≡ with_some (size_in ds) (signed_size negative)
whole_digits negative [] = refl
whole_digits negative (d ∷ ds) = by_digits (all_ascii_digits (d ∷ ds)) refl
  where
    by_digits : (v : Bool) → all_ascii_digits (d ∷ ds) ≡ v →
        with_some (unsigned_parts negative (d ∷ ds)) whole_part ≡ with_some (size_from 0 (d ∷ ds)) (signed_size negative)
    by_digits true all =
        let front : take (leading_digits (d ∷ ds)) (d ∷ ds) ≡ d ∷ ds =
        take_all (leading_digits (d ∷ ds)) (d ∷ ds) (omega (arith, lead_all (d ∷ ds) all)) in
        let back : drop (leading_digits (d ∷ ds)) (d ∷ ds) ≡ [] =
        drop_all (leading_digits (d ∷ ds)) (d ∷ ds) (omega (arith, lead_all (d ∷ ds) all)) in
        ap (λ w. with_some (parts_from negative w (tail_of (drop (leading_digits (d ∷ ds)) (d ∷ ds)))) whole_part) front
        ∙ ap (λ t. with_some (parts_from negative (d ∷ ds) (tail_of t)) whole_part) back
        ∙ signed_by negative (digits_after 0 (d ∷ ds))
        ∙ ap (λ o. with_some o (signed_size negative)) (sym (size_from-digits 0 (d ∷ ds) all))
    by_digits false other =
        tail_none negative (take (leading_digits (d ∷ ds)) (d ∷ ds)) (drop (leading_digits (d ∷ ds)) (d ∷ ds))
        (omega (arith, length-drop (leading_digits (d ∷ ds)) (d ∷ ds), lead_less (d ∷ ds) other))
        ∙ ap (λ o. with_some o (signed_size negative)) (sym (size_from-other 0 (d ∷ ds) other))

-- one digit is read
module _ (all : Option ℕ) (n : ℕ) (ds : List ℕ) (i : ℕ) (more : i < length ds) (so_far : all ≡ size_from n (drop i ds)) where
  next_by : all ≡ (if is_ascii_digit (get_or ds i 0) then size_from (10 * n + (get_or ds i 0 - 48)) (drop (i + 1) ds) else None)
  next_by = so_far ∙ ap (size_from n) (drop_more ds i 0 more)

  pub size_from-step : is_ascii_digit (get_or ds i 0) ≡ true → all ≡ size_from (10 * n + (get_or ds i 0 - 48)) (drop (i + 1) ds)
  size_from-step digit = next_by ∙ ap (λ b. if b then size_from (10 * n + (get_or ds i 0 - 48)) (drop (i + 1) ds) else None) digit

  -- another byte ends it
  pub size_from-stop : is_ascii_digit (get_or ds i 0) ≡ false → all ≡ None
  size_from-stop digit = next_by ∙ ap (λ b. if b then size_from (10 * n + (get_or ds i 0 - 48)) (drop (i + 1) ds) else None) digit

  -- one digit more is too many
  pub size_from-over : 922337203685477580 < n → all ≡ None
  size_from-over large =
      next_by
      ∙ elim (is_ascii_digit (get_or ds i 0))
      as (λ b. (if b then size_from (10 * n + (get_or ds i 0 - 48)) (drop (i + 1) ds) else None) ≡ None) [
        | true ↦ size_from-large (10 * n + (get_or ds i 0 - 48)) (drop (i + 1) ds) (omega (arith, large))
        | false ↦ refl
      ]
