-- Numbers in digits.
use Rattle.std.proofs.Common.{◌≡◌, ℕ, ℤ, Bool, true, false, pos, negsuc, suc, ◌^◌, ◌<◌, ◌≤◌, List, [], ◌∷◌, ◌++◌, drop, get_or, Some, None, Result, Ok, Err, refl, sym, ap, ◌∙◌, subst, arith}
use Rattle.std.specs.Prelude.{FitsSigned, decimal}
use Rattle.std.specs.Fmt.{signed_decimal}
use Rattle.std.specs.Str.{IsUtf8}
use Rattle.std.specs.Str.Parse.{AllDigits, ParsesUnsigned, digits_value}
use mir.Syntax.{w64}
use lib.Signed.{mag}
use Rattle.std.proofs.lemmas.Fmt.{decimal_is_IsNumeral_wide, parse-decimal_wide, IsAscii-decimal_wide}
use Rattle.std.proofs.lemmas.Str.{IsUtf8-from_ascii}
use Rattle.std.proofs.lemmas.Str.Parse.{digit_from_value, digit_at}
use Rattle.std.proofs.lemmas.List.{get_or_append_left}
use Rattle.certificate_text.specs.Lines.{IsBuffer}
use Rattle.certificate_text.specs.Parts.{HasNo, IsShort, ReadsTo}
use Rattle.certificate_text.proofs.ByteLemmas.{cut-same}

-- ---- What digits don't have

-- digits have no byte below them
digits-no : (c : ℕ) (ds : List ℕ) → c < 48 → AllDigits 10 ds → HasNo c ds
digits-no c [] low digits = tt
digits-no c (d ∷ ds) low digits =
    ((λ same. let h = digit_from_value d digits.0 in absurd (omega (arith, h.0, same))), digits-no c ds low digits.1)

-- nor has a number
pub decimal-no : (c n : ℕ) → c < 48 → n < 10 ^ 64 → HasNo c (decimal n)
decimal-no c n low small = digits-no c (decimal n) low (decimal_is_IsNumeral_wide n small).0.1

-- nor has a number with a sign, but for the sign
pub signed-no : (c : ℕ) (z : ℤ) → c < 48 → (45 ≡ c → ⊥) → mag z < 2 ^ 63 → HasNo c (signed_decimal z)
signed-no c (pos n) low other small = decimal-no c n low (omega (arith, small))
signed-no c (negsuc n) low other small = (other, decimal-no c (suc n) low (omega (arith, small)))

-- numbers of the same digits are one
pub decimal-own : (m n : ℕ) → m < 10 ^ 64 → n < 10 ^ 64 → decimal m ≡ decimal n → m ≡ n
decimal-own m n m_in n_in same =
    sym (decimal_is_IsNumeral_wide m m_in).1 ∙ ap (digits_value 10) same ∙ (decimal_is_IsNumeral_wide n n_in).1

-- ---- Numbers that are read

-- a number of 64 bits with its sign
pub small-id : (z : ℤ) → FitsSigned w64 z → mag z < 2 ^ 63
small-id (pos n) fits = omega (arith, fits)
small-id (negsuc n) fits = omega (arith, fits)

-- digits are a text
pub decimal-text : (bytes : List ℕ) (n : ℕ) → n < 10 ^ 64 → bytes ≡ decimal n → IsUtf8 bytes
decimal-text bytes n small same = subst IsUtf8 (sym same) (IsUtf8-from_ascii (decimal n) (IsAscii-decimal_wide n small))

-- an answer is one
ok-same : {A : Type 0} (x y : A) (r : Result A ℕ) → r ≡ Ok x → r ≡ Ok y → x ≡ y
ok-same x y r first second = cc

-- and no refusal
ok-err : {A : Type 0} (x : A) (r : Result A ℕ) → r ≡ Err 0 → r ≡ Ok x → ⊥
ok-err x r first second = absurd cc

-- a test has one answer
pub not-both : (b : Bool) → b ≡ false → b ≡ true → ⊥
not-both true wrong right = absurd cc
not-both false wrong right = absurd cc

-- a refused text is none of a number
pub refused-wide : (bits : ℕ) (bytes : List ℕ) → ParsesUnsigned {E = ℕ} bits 10 bytes (Err 0) → (n : ℕ) → n < 2 ^ bits →
    n < 10 ^ 64 → bytes ≡ decimal n → ⊥
refused-wide bits bytes parsed n fits small same =
    ok-err n (Err 0) refl (parse-decimal_wide {E = ℕ} bits n bytes (Err 0) fits small same parsed)

-- a text that is read is that of no other number
pub parsed-wide : (bits : ℕ) (bytes : List ℕ) (m : ℕ) → ParsesUnsigned {E = ℕ} bits 10 bytes (Ok m) →
    (n : ℕ) → n < 2 ^ bits → n < 10 ^ 64 → bytes ≡ decimal n → m ≡ n
parsed-wide bits bytes m parsed n fits small same =
    ok-same m n (Ok m) refl (parse-decimal_wide {E = ℕ} bits n bytes (Ok m) fits small same parsed)

-- ---- Numbers before a byte

module _ (text : List ℕ) (byte number n : ℕ) (rest more : List ℕ) (low : byte < 48) where
  -- texts of digits before a byte are of one number
  pub before-own : number < 10 ^ 64 → n < 10 ^ 64 → text ≡ decimal number ++ (byte ∷ rest) → text ≡ decimal n ++ (byte ∷ more) → number ≡ n
  before-own small small_n told same =
      decimal-own number n small small_n
      (cut-same byte (decimal number) (decimal n) rest more (decimal-no byte number low small) (decimal-no byte n low small_n)
      (sym told ∙ same)).0

  -- so a number above others is none of them
  pub before-high : (end : ℕ) → end < 10 ^ 64 → number < 10 ^ 64 → text ≡ decimal number ++ (byte ∷ rest) → end ≤ number → n < end →
      text ≡ decimal n ++ (byte ∷ more) → ⊥
  before-high end small_end small told above below same =
      absurd (omega (arith, before-own small (omega (arith, below, small_end)) told same, above, below))

-- the digits of a number begin with no sign
pub decimal-first : (n : ℕ) (behind : List ℕ) → n < 10 ^ 64 → get_or (decimal n ++ behind) 0 0 ≡ 45 → ⊥
decimal-first n behind small same =
    let digits = (decimal_is_IsNumeral_wide n small).0 in
    let digit = digit_at (decimal n) 0 digits.1 digits.0 in
    absurd (omega (arith, digit.0, sym (get_or_append_left (decimal n) behind 0 0 digits.0) ∙ same))

-- no buffer is printed as a number of 64 bits
pub buffer-high : (text : List ℕ) (byte number : ℕ) (rest : List ℕ) → byte < 48 → ReadsTo byte decimal IsShort text (Some (number, rest)) →
    2 ^ 63 ≤ number → (z : ℤ) (more : List ℕ) → IsBuffer z → text ≡ signed_decimal z ++ (byte ∷ more) → ⊥
buffer-high text byte number rest low told above (pos n) more fits same =
    before-high text byte number n rest more low (2 ^ 63) (omega arith) (omega (arith, told.0)) told.1 above (small-id (pos n) fits.1) same
buffer-high text byte number rest low told above (negsuc n) more fits same =
    decimal-first number (byte ∷ rest) (omega (arith, told.0)) (ap (λ (t : List ℕ). get_or t 0 0) (sym told.1 ∙ same))

-- a text that begins with a sign says an id below zero
module _ (text : List ℕ) (byte : ℕ) (signed : get_or text 0 0 ≡ 45) where
  pub id-below : (digits : List ℕ) → digits ≡ drop 1 text → (z : ℤ) (more : List ℕ) → FitsSigned w64 z →
      text ≡ signed_decimal z ++ (byte ∷ more) → (n : ℕ) × ((n < 2 ^ 63) × (digits ≡ decimal (suc n) ++ (byte ∷ more)))
  id-below digits digits_are (pos n) more fits same =
      absurd (decimal-first n (byte ∷ more) (omega (arith, small-id (pos n) fits)) (ap (λ (t : List ℕ). get_or t 0 0) (sym same) ∙ signed))
  id-below digits digits_are (negsuc n) more fits same = (n, (small-id (negsuc n) fits, digits_are ∙ ap (drop 1) same))

  -- so none says one where its digits are none of a number of at most 19 digits
  pub id-none : (digits : List ℕ) → digits ≡ drop 1 text → ReadsTo byte decimal IsShort digits None → (z : ℤ) (more : List ℕ) →
      FitsSigned w64 z → text ≡ signed_decimal z ++ (byte ∷ more) → ⊥
  id-none digits digits_are none z more fits same =
      let below = id-below digits digits_are z more fits same in
      none (suc below.0) more (omega (arith, below.1.0)) below.1.1

  -- nor where they are of zero, or of one above all that have a sign
  pub id-other : byte < 48 → (digits : List ℕ) → digits ≡ drop 1 text → (number : ℕ) (rest : List ℕ) →
      ReadsTo byte decimal IsShort digits (Some (number, rest)) → (0 < number → 2 ^ 63 < number) → (z : ℤ) (more : List ℕ) →
      FitsSigned w64 z → text ≡ signed_decimal z ++ (byte ∷ more) → ⊥
  id-other low digits digits_are number rest told far z more fits same =
      let below = id-below digits digits_are z more fits same in
      let one = before-own digits byte number (suc below.0) rest more low (omega (arith, told.0)) (omega (arith, below.1.0)) told.1 below.1.1 in
      absurd (omega (arith, one, below.1.0, far (omega (arith, one))))
