-- The parts of a text and the grammar of decimal texts agree.
use Rattle.std.proofs.Common.{◌≡◌, ℕ, suc, ◌+◌, ◌<◌, Bool, true, false, cond, ◌&&◌, List, [], ◌∷◌, ◌++◌, length, take, drop, nat_eq, refl, sym, ap, ◌∙◌, subst, arith, Option, Some, None}
use Rattle.std.proofs.lemmas.Bool.{and_parts, eqb-true}
use Rattle.std.proofs.lemmas.Bool.Decides.{nat_tests}
use Rattle.std.proofs.lemmas.List.{take-append-drop}
use Rattle.std.proofs.Math.Seq.{take-append_seam, drop-append_seam}
use Rattle.std.specs.Char.{is_ascii_digit}
use Rattle.std.specs.Str.{all_ascii_digits}
use Rattle.fixed_num.specs.Decimal.{Decimal, leading_digits, is_fraction, tail_of, parts_from, unsigned_parts, parts_of, sign_text, fraction_text, IsDecimal, Spells}
use Rattle.std.proofs.lemmas.Option.{cond_some}

-- ---- Digits at the front

-- two numbers are equal as those one above them are
nat_eq-suc : (m n : ℕ) → nat_eq (1 + m) (suc n) ≡ nat_eq m n
nat_eq-suc m n = grind (arith, nat_tests)

-- nothing is no number above
nat_eq-zero : (n : ℕ) → nat_eq 0 (suc n) ≡ false
nat_eq-zero n = grind (arith, nat_tests)

-- a text is digits alone as its digits at the front are all of it
leading_digits-all : (text : List ℕ) → nat_eq (leading_digits text) (length text) ≡ all_ascii_digits text
leading_digits-all [] = refl
leading_digits-all (c ∷ cs) =
    elim (is_ascii_digit c) as (λ v. nat_eq (cond v (1 + leading_digits cs) 0) (suc (length cs)) ≡ (v && all_ascii_digits cs)) [
      | true ↦ nat_eq-suc (leading_digits cs) (length cs) ∙ leading_digits-all cs
      | false ↦ nat_eq-zero (length cs)
    ]

-- a text that isn't empty is a fraction as its digits at the front are all of it
pub is_fraction_is : (text : List ℕ) → nat_eq (length text) 0 ≡ false → nat_eq (leading_digits text) (length text) ≡ is_fraction text
is_fraction_is [] some = cc
is_fraction_is (c ∷ cs) some = leading_digits-all (c ∷ cs)

-- a digit in front adds one to the digits at the front
leading_digits-digit : (c : ℕ) (cs : List ℕ) → is_ascii_digit c ≡ true → leading_digits (c ∷ cs) ≡ suc (leading_digits cs)
leading_digits-digit c cs digit = ap (λ v. cond v (1 + leading_digits cs) 0) digit ∙ omega arith

-- another byte in front leaves none
leading_digits-other : (c : ℕ) (cs : List ℕ) → is_ascii_digit c ≡ false → leading_digits (c ∷ cs) ≡ 0
leading_digits-other c cs other = ap (λ v. cond v (1 + leading_digits cs) 0) other

-- the digits at the front are digits
pub all_ascii_digits-front : (text : List ℕ) → all_ascii_digits (take (leading_digits text) text) ≡ true
all_ascii_digits-front [] = refl
all_ascii_digits-front (c ∷ cs) = front_of c cs (is_ascii_digit c) refl (all_ascii_digits-front cs)
  where
    front_of : (c : ℕ) (cs : List ℕ) (v : Bool) → is_ascii_digit c ≡ v → all_ascii_digits (take (leading_digits cs) cs) ≡ true →
        all_ascii_digits (take (leading_digits (c ∷ cs)) (c ∷ cs)) ≡ true
    front_of c cs true digit rest =
        ap (λ n. all_ascii_digits (take n (c ∷ cs))) (leading_digits-digit c cs digit)
        ∙ ap (λ v. v && all_ascii_digits (take (leading_digits cs) cs)) digit
        ∙ rest
    front_of c cs false other rest = ap (λ n. all_ascii_digits (take n (c ∷ cs))) (leading_digits-other c cs other)

-- digits before a text that begins with none are the digits at the front
leading_digits-append : (xs ys : List ℕ) → all_ascii_digits xs ≡ true → leading_digits ys ≡ 0 → leading_digits (xs ++ ys) ≡ length xs
leading_digits-append [] ys digits none = none
leading_digits-append (x ∷ xs) ys digits none =
    let parts : (is_ascii_digit x ≡ true) × (all_ascii_digits xs ≡ true) = and_parts _ _ digits in
    leading_digits-digit x (xs ++ ys) parts.0 ∙ ap suc (leading_digits-append xs ys parts.1 none)

-- ---- What follows the digits before the point

-- a point isn't a digit, nor is the end
leading_digits-fraction_text : (f : List ℕ) → leading_digits (fraction_text f) ≡ 0
leading_digits-fraction_text [] = refl
leading_digits-fraction_text (c ∷ cs) = refl

-- digits that are written after a point are found there
tail_of-fraction_text : (f : List ℕ) → all_ascii_digits f ≡ true → tail_of (fraction_text f) ≡ Some f
tail_of-fraction_text [] digits = refl
tail_of-fraction_text (c ∷ cs) digits = ap (λ v. cond v (Some (c ∷ cs)) None) digits

-- a point with digits is what their text says
point_text : (c : ℕ) (cs : List ℕ) → nat_eq c 46 ≡ true → is_fraction cs ≡ true → (c ∷ cs ≡ fraction_text cs) × (all_ascii_digits cs ≡ true)
point_text c [] point digits = (cc, cc)
point_text c (d ∷ ds) point digits = (ap (λ x. x ∷ d ∷ ds) (eqb-true c 46 point), digits)

-- what is found after the digits before the point is written there, and is digits
pub tail_of_sound : (tail f : List ℕ) → tail_of tail ≡ Some f → (tail ≡ fraction_text f) × (all_ascii_digits f ≡ true)
tail_of_sound [] f found =
    let none : ◌≡◌ {A = List ℕ} [] f = cc in
    subst (λ (f : List ℕ). (◌≡◌ {A = List ℕ} [] (fraction_text f)) × (all_ascii_digits f ≡ true)) none (refl, refl)
tail_of_sound (c ∷ cs) f found =
    let passed : ((nat_eq c 46 && is_fraction cs) ≡ true) × (cs ≡ f) = cond_some (nat_eq c 46 && is_fraction cs) cs f found in
    let tests : (nat_eq c 46 ≡ true) × (is_fraction cs ≡ true) = and_parts _ _ passed.0 in
    subst (λ (f : List ℕ). (c ∷ cs ≡ fraction_text f) × (all_ascii_digits f ≡ true)) passed.1 (point_text c cs tests.0 tests.1)

-- ---- The parts after the sign

-- parts that are found are digits before the point, and what was found after them
parts_from_sound : (negative : Bool) (whole : List ℕ) (tail : Option (List ℕ)) (d : Decimal) →
    parts_from negative whole tail ≡ Some d →
    (0 < length whole) × (tail ≡ Some d.fraction) × (d.whole ≡ whole) × (d.is_negative ≡ negative)
parts_from_sound negative [] tail d found = cc
parts_from_sound negative (c ∷ cs) None d found = cc
parts_from_sound negative (c ∷ cs) (Some f) d found =
    let same : ◌≡◌ {A = Decimal} (record { is_negative = negative; whole = c ∷ cs; fraction = f }) d = cc in
    (omega arith, ap (λ d. Some d.fraction) same, ap (λ d. d.whole) (sym same), ap (λ d. d.is_negative) (sym same))

-- the parts that are found after the sign spell the text
unsigned_parts_sound : (negative : Bool) (text : List ℕ) (d : Decimal) → unsigned_parts negative text ≡ Some d →
    IsDecimal d × (text ≡ d.whole ++ fraction_text d.fraction) × (d.is_negative ≡ negative)
unsigned_parts_sound negative text d found =
    let n : ℕ = leading_digits text in
    let parts : (0 < length (take n text)) × (tail_of (drop n text) ≡ Some d.fraction) × (d.whole ≡ take n text)
    × (d.is_negative ≡ negative) = parts_from_sound negative (take n text) (tail_of (drop n text)) d found in
    let tail : (drop n text ≡ fraction_text d.fraction) × (all_ascii_digits d.fraction ≡ true) =
    tail_of_sound (drop n text) d.fraction parts.1 in (
      record {
        some_whole = subst (λ (w : List ℕ). 0 < length w) (sym parts.2) parts.0;
        whole_digits = ap all_ascii_digits parts.2 ∙ all_ascii_digits-front text;
        fraction_digits = tail.1;
      },
      sym (take-append-drop n text) ∙ ap (λ w. w ++ drop n text) (sym parts.2) ∙ ap (λ t. d.whole ++ t) tail.0,
      parts.3,
    )

-- parts are made of digits before the point and the digits after it
parts_from_some : (negative : Bool) (whole fraction : List ℕ) → 0 < length whole → parts_from negative whole (Some fraction)
    ≡ Some (record {
      is_negative =
          negative;
      whole = whole;
      fraction = fraction;
    })
parts_from_some negative [] fraction some = absurd (omega arith)
parts_from_some negative (c ∷ cs) fraction some = refl

-- the parts that spell a text are found after the sign
unsigned_parts_whole : (negative : Bool) (whole fraction : List ℕ) → 0 < length whole → all_ascii_digits whole ≡ true →
    all_ascii_digits fraction ≡ true → unsigned_parts negative (whole ++ fraction_text fraction) ≡ Some (record {
      is_negative =
          negative;
      whole = whole;
      fraction = fraction;
    })
unsigned_parts_whole negative whole fraction some digits more =
    let front : leading_digits (whole ++ fraction_text fraction) ≡ length whole =
    leading_digits-append whole (fraction_text fraction) digits (leading_digits-fraction_text fraction) in
    ap (λ n. parts_from negative (take n (whole ++ fraction_text fraction)) (tail_of (drop n (whole ++ fraction_text fraction)))) front
    ∙ ap (λ w. parts_from negative w (tail_of (drop (length whole) (whole ++ fraction_text fraction))))
    (take-append_seam whole (fraction_text fraction))
    ∙ ap (λ t. parts_from negative whole (tail_of t)) (drop-append_seam whole (fraction_text fraction))
    ∙ ap (λ t. parts_from negative whole t) (tail_of-fraction_text fraction more)
    ∙ parts_from_some negative whole fraction some

-- a digit is no `-`
digit_is_no_minus : (c : ℕ) → is_ascii_digit c ≡ true → nat_eq c 45 ≡ false
digit_is_no_minus c digit = grind (arith, nat_tests)

-- ---- The whole text

-- the parts of a text spell it
pub parts_of_sound : (text : List ℕ) (d : Decimal) → parts_of text ≡ Some d → Spells text d
parts_of_sound [] d found = cc
parts_of_sound (c ∷ cs) d found = sound_at (nat_eq c 45) refl found
  where
    sound_at : (v : Bool) → nat_eq c 45 ≡ v → cond v (unsigned_parts true cs) (unsigned_parts false (c ∷ cs)) ≡ Some d → Spells (c ∷ cs) d
    sound_at true minus found =
        let parts : IsDecimal d × (cs ≡ d.whole ++ fraction_text d.fraction) × (d.is_negative ≡ true) =
        unsigned_parts_sound true cs d found in
        record {
          valid = parts.0;
          text_is =
              ap (λ x. x ∷ cs) (eqb-true c 45 minus) ∙ ap (λ t. 45 ∷ t) parts.1
              ∙ ap (λ s. sign_text s ++ (d.whole ++ fraction_text d.fraction)) (sym parts.2);
        }
    sound_at false plain found =
        let parts : IsDecimal d × (c ∷ cs ≡ d.whole ++ fraction_text d.fraction) × (d.is_negative ≡ false) =
        unsigned_parts_sound false (c ∷ cs) d found in
        record {
          valid = parts.0;
          text_is = parts.1 ∙ ap (λ s. sign_text s ++ (d.whole ++ fraction_text d.fraction)) (sym parts.2);
        }

-- the parts that spell a text are its parts
pub parts_of_whole : (text : List ℕ) (d : Decimal) → Spells text d → parts_of text ≡ Some d
parts_of_whole text d spells =
    ap parts_of spells.text_is
    ∙ whole_at d.is_negative d.whole d.fraction spells.valid.some_whole spells.valid.whole_digits spells.valid.fraction_digits
  where
    whole_at : (negative : Bool) (whole fraction : List ℕ) → 0 < length whole → all_ascii_digits whole ≡ true →
        all_ascii_digits fraction ≡ true → parts_of (sign_text negative ++ (whole ++ fraction_text fraction))
        ≡ Some (record { is_negative = negative; whole = whole; fraction = fraction })
    whole_at true whole fraction some digits more = unsigned_parts_whole true whole fraction some digits more
    whole_at false [] fraction some digits more = absurd (omega arith)
    whole_at false (c ∷ cs) fraction some digits more =
        ap (λ v. cond v (unsigned_parts true (cs ++ fraction_text fraction)) (unsigned_parts false (c ∷ cs ++ fraction_text fraction)))
        (digit_is_no_minus c (and_parts _ _ digits).0)
        ∙ unsigned_parts_whole false (c ∷ cs) fraction some digits more
