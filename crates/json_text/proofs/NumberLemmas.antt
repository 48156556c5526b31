-- A number's bytes, one after the other, are what the four parts of the grammar spell.
use Rattle.std.proofs.Common.{◌≡◌, ℕ, inl, inr, true, List, [], ◌∷◌, ◌++◌, refl, sym, ap, subst, Option, Some, None}
use mathlib.Core.Bool.{false≢true}
use Rattle.json_text.specs.declared.mode.Kind.{Kind}
use Rattle.json_text.specs.declared.mode.Kind.TheVariants as kind_
use Rattle.json_text.specs.declared.mode.Part.{Part}
use Rattle.json_text.specs.declared.mode.Part.TheVariants as part_
use Rattle.json_text.specs.Bytes.{AreAll, kind_of, is_digit, is_digit_kind, is_sign_kind}
use Rattle.json_text.specs.Numbers.{IsRun, IsMinus, IsInt, IsFrac, IsSigned, IsExp, IsNumber}
use Rattle.json_text.specs.Rest.{part_after, may_end, OnPart, Completes}

-- behind a part a zero and another digit lead to the same part
pub record Takes (part next : Part) : Type 0 where
  pub zero : part_after part kind_.Zero ≡ Some next
  pub digit : part_after part kind_.Digit ≡ Some next

-- so each digit does
pub takes_kind : (part next : Part) (kind : Kind) → Takes part next → is_digit_kind kind ≡ true → part_after part kind ≡ Some next
takes_kind part next kind_.Zero t h = t.zero
takes_kind part next kind_.Digit t h = t.digit
takes_kind part next kind_.Point t h = absurd (false≢true h)
takes_kind part next kind_.Letter t h = absurd (false≢true h)
takes_kind part next kind_.Plus t h = absurd (false≢true h)
takes_kind part next kind_.Minus t h = absurd (false≢true h)
takes_kind part next kind_.Other t h = absurd (false≢true h)

-- a byte of a kind leads on where the part behind it does
pub goes_on : (part next : Part) (b : ℕ) (bytes : List ℕ) → part_after part (kind_of b) ≡ Some next → Completes bytes next →
    Completes (b ∷ bytes) part
goes_on part next b bytes e c = subst (λ o. OnPart o (Completes bytes)) (sym e) c

-- digits lead on
digit_goes : (part next : Part) (b : ℕ) (bytes : List ℕ) → Takes part next → is_digit b ≡ true → Completes bytes next →
    Completes (b ∷ bytes) part
digit_goes part next b bytes t h c = goes_on part next b bytes (takes_kind part next (kind_of b) t h) c

-- so do any digits, where they stay in their part
digits_go : (part : Part) (digits bytes : List ℕ) → Takes part part → AreAll is_digit digits → Completes bytes part →
    Completes (digits ++ bytes) part
digits_go part [] bytes t h c = c
digits_go part (d ∷ digits) bytes t h c = digit_goes part part d (digits ++ bytes) t h.0 (digits_go part digits bytes t h.1 c)

-- and digits of which there is at least one
run_goes : (part next : Part) (digits bytes : List ℕ) → Takes part next → Takes next next → IsRun digits → Completes bytes next →
    Completes (digits ++ bytes) part
run_goes part next [] bytes t u h c = absurd h
run_goes part next (d ∷ digits) bytes t u h c = digit_goes part next d (digits ++ bytes) t h.0 (digits_go next digits bytes u h.1 c)

-- what it takes that digits lead from a part to another
takes : (part next : Part) → part_after part kind_.Zero ≡ Some next → part_after part kind_.Digit ≡ Some next → Takes part next
takes part next z d = record { zero = z; digit = d }

-- nothing behind bytes changes nothing
append_nil : (xs : List ℕ) → xs ++ [] ≡ xs
append_nil [] = refl
append_nil (x ∷ xs) = ap (λ ys. x ∷ ys) (append_nil xs)

-- digits may end a number
digits_end : (part : Part) (digits : List ℕ) → Takes part part → may_end part ≡ true → AreAll is_digit digits → Completes digits part
digits_end part digits t m h = subst (λ xs. Completes xs part) (append_nil digits) (digits_go part digits [] t h m)

-- digits of which there is at least one may end a number
run_end : (part next : Part) (digits : List ℕ) → Takes part next → Takes next next → may_end next ≡ true → IsRun digits →
    Completes digits part
run_end part next digits t u m h = subst (λ xs. Completes xs part) (append_nil digits) (run_goes part next digits [] t u h m)

-- a sign may follow the letter of an exponent
sign_kind_goes : (kind : Kind) → is_sign_kind kind ≡ true → part_after part_.Letter kind ≡ Some part_.Sign
sign_kind_goes kind_.Zero h = absurd (false≢true h)
sign_kind_goes kind_.Digit h = absurd (false≢true h)
sign_kind_goes kind_.Point h = absurd (false≢true h)
sign_kind_goes kind_.Letter h = absurd (false≢true h)
sign_kind_goes kind_.Plus h = refl
sign_kind_goes kind_.Minus h = refl
sign_kind_goes kind_.Other h = absurd (false≢true h)

-- digits with a sign or without follow the letter of an exponent
signed_goes : (bytes : List ℕ) → IsSigned bytes → Completes bytes part_.Letter
signed_goes [] h = absurd h
signed_goes (b ∷ bytes) (inl h) = run_end part_.Letter part_.Exponent (b ∷ bytes) (takes _ _ refl refl) (takes _ _ refl refl) refl h
signed_goes (b ∷ bytes) (inr h) =
    goes_on part_.Letter part_.Sign b bytes (sign_kind_goes (kind_of b) h.0)
    (run_end part_.Sign part_.Exponent bytes (takes _ _ refl refl) (takes _ _ refl refl) refl h.1)

-- an exponent, or nothing, completes a number behind these parts
exp_goes : (part : Part) → may_end part ≡ true → part_after part kind_.Letter ≡ Some part_.Letter → (exp : List ℕ) → IsExp exp →
    Completes exp part
exp_goes part m e [] h = m
exp_goes part m e (b ∷ bytes) h = goes_on part part_.Letter b bytes (subst (λ k. part_after part k ≡ Some part_.Letter) (sym h.0) e)
    (signed_goes bytes h.1)

-- so does a fraction, or nothing, with an exponent, or nothing, behind it
frac_goes : (part : Part) → may_end part ≡ true → part_after part kind_.Letter ≡ Some part_.Letter →
    part_after part kind_.Point ≡ Some part_.Point
    → (frac exp : List ℕ) → IsFrac frac → IsExp exp → Completes (frac ++ exp) part
frac_goes part m e p [] exp f x = exp_goes part m e exp x
frac_goes part m e p (b ∷ bytes) exp f x =
    goes_on part part_.Point b (bytes ++ exp) (subst (λ k. part_after part k ≡ Some part_.Point) (sym f.0) p)
    (run_goes part_.Point part_.Fraction bytes exp (takes _ _ refl refl) (takes _ _ refl refl) f.1
    (exp_goes part_.Fraction refl refl exp x))

-- the whole part with what follows it completes a number
int_goes : (part : Part) → part_after part kind_.Zero ≡ Some part_.Zero → part_after part kind_.Digit ≡ Some part_.Whole
    → (int frac exp : List ℕ) → IsInt int → IsFrac frac → IsExp exp → Completes (int ++ (frac ++ exp)) part
int_goes part z d [] frac exp i f x = absurd i
int_goes part z d (b ∷ bytes) frac exp (inl i) f x =
    goes_on part part_.Zero b (bytes ++ (frac ++ exp)) (subst (λ k. part_after part k ≡ Some part_.Zero) (sym i.0) z)
    (subst (λ bs. Completes (bs ++ (frac ++ exp)) part_.Zero) (sym i.1) (frac_goes part_.Zero refl refl refl frac exp f x))
int_goes part z d (b ∷ bytes) frac exp (inr i) f x =
    goes_on part part_.Whole b (bytes ++ (frac ++ exp)) (subst (λ k. part_after part k ≡ Some part_.Whole) (sym i.0) d)
    (digits_go part_.Whole bytes (frac ++ exp) (takes _ _ refl refl) i.1 (frac_goes part_.Whole refl refl refl frac exp f x))

-- so do all four parts
minus_goes : (minus int frac exp : List ℕ) → IsMinus minus → IsInt int → IsFrac frac → IsExp exp →
    Completes (minus ++ (int ++ (frac ++ exp))) part_.Nothing
minus_goes [] int frac exp m i f x = int_goes part_.Nothing refl refl int frac exp i f x
minus_goes (b ∷ []) int frac exp m i f x =
    goes_on part_.Nothing part_.Minus b (int ++ (frac ++ exp)) (subst (λ k. part_after part_.Nothing k ≡ Some part_.Minus) (sym m) refl)
    (int_goes part_.Minus refl refl int frac exp i f x)
minus_goes (b ∷ c ∷ bytes) int frac exp m i f x = absurd m

-- a number of the grammar is read part by part
pub number_goes : (bytes : List ℕ) → IsNumber bytes → Completes bytes part_.Nothing
number_goes bytes n = subst (λ xs. Completes xs part_.Nothing) (sym n.spelled)
    (minus_goes n.minus n.int n.frac n.exp n.is_minus n.is_int n.is_frac n.is_exp)

-- what completes a number behind a part, in the grammar's own words
abbrev pub Spelled : Part → List ℕ → Type 0
Spelled part_.Nothing bytes = IsNumber bytes
Spelled part_.Minus bytes = (int : List ℕ) × (frac : List ℕ) × (exp : List ℕ) × IsInt int × IsFrac frac × IsExp exp ×
    (bytes ≡ int ++ (frac ++ exp))
Spelled part_.Zero bytes = (frac : List ℕ) × (exp : List ℕ) × IsFrac frac × IsExp exp × (bytes ≡ frac ++ exp)
Spelled part_.Whole bytes = (digits : List ℕ) × (frac : List ℕ) × (exp : List ℕ) × AreAll is_digit digits × IsFrac frac × IsExp exp ×
    (bytes ≡ digits ++ (frac ++ exp))
Spelled part_.Point bytes = (digits : List ℕ) × (exp : List ℕ) × IsRun digits × IsExp exp × (bytes ≡ digits ++ exp)
Spelled part_.Fraction bytes = (digits : List ℕ) × (exp : List ℕ) × AreAll is_digit digits × IsExp exp × (bytes ≡ digits ++ exp)
Spelled part_.Letter bytes = IsSigned bytes
Spelled part_.Sign bytes = IsRun bytes
Spelled part_.Exponent bytes = AreAll is_digit bytes

-- at the end of a number
ends : (part : Part) → may_end part ≡ true → Spelled part []
ends part_.Nothing h = absurd (false≢true h)
ends part_.Minus h = absurd (false≢true h)
ends part_.Zero h = ([], [], tt, tt, refl)
ends part_.Whole h = ([], [], [], tt, tt, tt, refl)
ends part_.Point h = absurd (false≢true h)
ends part_.Fraction h = ([], [], tt, tt, refl)
ends part_.Letter h = absurd (false≢true h)
ends part_.Sign h = absurd (false≢true h)
ends part_.Exponent h = tt

-- a byte of a kind and what completes a number behind it
digit_at : (b : ℕ) (kind : Kind) → kind_of b ≡ kind → is_digit_kind kind ≡ true → is_digit b ≡ true
digit_at b kind k h = subst (λ x. is_digit_kind x ≡ true) (sym k) h

-- a digit more of the whole part
whole_more : (b : ℕ) (bytes : List ℕ) → is_digit b ≡ true → Spelled part_.Whole bytes → Spelled part_.Whole (b ∷ bytes)
whole_more b bytes d (digits, frac, exp, ds, f, x, e) = (b ∷ digits, frac, exp, (d, ds), f, x, ap (λ xs. b ∷ xs) e)

-- a digit more of the fraction
fraction_more : (b : ℕ) (bytes : List ℕ) → is_digit b ≡ true → Spelled part_.Fraction bytes → Spelled part_.Fraction (b ∷ bytes)
fraction_more b bytes d (digits, exp, ds, x, e) = (b ∷ digits, exp, (d, ds), x, ap (λ xs. b ∷ xs) e)

-- the first digit of the fraction
point_more : (b : ℕ) (bytes : List ℕ) → is_digit b ≡ true → Spelled part_.Fraction bytes → Spelled part_.Point (b ∷ bytes)
point_more b bytes d (digits, exp, ds, x, e) = (b ∷ digits, exp, (d, ds), x, ap (λ xs. b ∷ xs) e)

-- a point before digits
point_then : (b : ℕ) (bytes : List ℕ) → kind_of b ≡ kind_.Point → Spelled part_.Point bytes → Spelled part_.Zero (b ∷ bytes)
point_then b bytes k (digits, exp, r, x, e) = (b ∷ digits, exp, (k, r), x, ap (λ xs. b ∷ xs) e)

-- a letter before an exponent
letter_then : (b : ℕ) (bytes : List ℕ) → kind_of b ≡ kind_.Letter → Spelled part_.Letter bytes → Spelled part_.Zero (b ∷ bytes)
letter_then b bytes k s = ([], b ∷ bytes, tt, (k, s), refl)

-- what may follow a zero may follow other digits
zero_whole : (bytes : List ℕ) → Spelled part_.Zero bytes → Spelled part_.Whole bytes
zero_whole bytes (frac, exp, f, x, e) = ([], frac, exp, tt, f, x, e)

-- a letter before an exponent, behind a fraction
letter_fraction : (b : ℕ) (bytes : List ℕ) → kind_of b ≡ kind_.Letter → Spelled part_.Letter bytes → Spelled part_.Fraction (b ∷ bytes)
letter_fraction b bytes k s = ([], b ∷ bytes, tt, (k, s), refl)

-- a zero that is the whole part
zero_then : (b : ℕ) (bytes : List ℕ) → kind_of b ≡ kind_.Zero → Spelled part_.Zero bytes → Spelled part_.Minus (b ∷ bytes)
zero_then b bytes k (frac, exp, f, x, e) = (b ∷ [], frac, exp, inl (k, refl), f, x, ap (λ xs. b ∷ xs) e)

-- the first digit of the whole part
whole_then : (b : ℕ) (bytes : List ℕ) → kind_of b ≡ kind_.Digit → Spelled part_.Whole bytes → Spelled part_.Minus (b ∷ bytes)
whole_then b bytes k (digits, frac, exp, ds, f, x, e) = (b ∷ digits, frac, exp, inr (k, ds), f, x, ap (λ xs. b ∷ xs) e)

-- a number without a minus
unsigned : (bytes : List ℕ) → Spelled part_.Minus bytes → Spelled part_.Nothing bytes
unsigned bytes (int, frac, exp, i, f, x, e) =
    record { minus = []; int = int; frac = frac; exp = exp; is_minus = tt; is_int = i; is_frac = f; is_exp = x; spelled = e }

-- a number with one
minus_then : (b : ℕ) (bytes : List ℕ) → kind_of b ≡ kind_.Minus → Spelled part_.Minus bytes → Spelled part_.Nothing (b ∷ bytes)
minus_then b bytes k (int, frac, exp, i, f, x, e) =
    record {
      minus = b ∷ [];
      int = int;
      frac = frac;
      exp = exp;
      is_minus = k;
      is_int = i;
      is_frac = f;
      is_exp = x;
      spelled =
          ap (λ xs. b ∷ xs) e;
    }

-- digits of which there is at least one are digits
run_of : (bytes : List ℕ) → IsRun bytes → AreAll is_digit bytes
run_of [] r = tt
run_of (b ∷ bytes) r = r

-- a byte of a kind before what completes a number behind it
byte_then : (part : Part) (b : ℕ) (bytes : List ℕ) (kind : Kind) → kind_of b ≡ kind
    → OnPart (part_after part kind) (λ next. Spelled next bytes) → Spelled part (b ∷ bytes)
byte_then part_.Nothing b bytes kind_.Zero k s = unsigned _ (zero_then b bytes k s)
byte_then part_.Nothing b bytes kind_.Digit k s = unsigned _ (whole_then b bytes k s)
byte_then part_.Nothing b bytes kind_.Minus k s = minus_then b bytes k s
byte_then part_.Minus b bytes kind_.Zero k s = zero_then b bytes k s
byte_then part_.Minus b bytes kind_.Digit k s = whole_then b bytes k s
byte_then part_.Zero b bytes kind_.Point k s = point_then b bytes k s
byte_then part_.Zero b bytes kind_.Letter k s = letter_then b bytes k s
byte_then part_.Whole b bytes kind_.Zero k s = whole_more b bytes (digit_at b kind_.Zero k refl) s
byte_then part_.Whole b bytes kind_.Digit k s = whole_more b bytes (digit_at b kind_.Digit k refl) s
byte_then part_.Whole b bytes kind_.Point k s = zero_whole _ (point_then b bytes k s)
byte_then part_.Whole b bytes kind_.Letter k s = zero_whole _ (letter_then b bytes k s)
byte_then part_.Point b bytes kind_.Zero k s = point_more b bytes (digit_at b kind_.Zero k refl) s
byte_then part_.Point b bytes kind_.Digit k s = point_more b bytes (digit_at b kind_.Digit k refl) s
byte_then part_.Fraction b bytes kind_.Zero k s = fraction_more b bytes (digit_at b kind_.Zero k refl) s
byte_then part_.Fraction b bytes kind_.Digit k s = fraction_more b bytes (digit_at b kind_.Digit k refl) s
byte_then part_.Fraction b bytes kind_.Letter k s = letter_fraction b bytes k s
byte_then part_.Letter b bytes kind_.Zero k s = inl (digit_at b kind_.Zero k refl, s)
byte_then part_.Letter b bytes kind_.Digit k s = inl (digit_at b kind_.Digit k refl, s)
byte_then part_.Letter b bytes kind_.Plus k s = inr (subst (λ x. is_sign_kind x ≡ true) (sym k) refl, s)
byte_then part_.Letter b bytes kind_.Minus k s = inr (subst (λ x. is_sign_kind x ≡ true) (sym k) refl, s)
byte_then part_.Sign b bytes kind_.Zero k s = (digit_at b kind_.Zero k refl, s)
byte_then part_.Sign b bytes kind_.Digit k s = (digit_at b kind_.Digit k refl, s)
byte_then part_.Exponent b bytes kind_.Zero k s = (digit_at b kind_.Zero k refl, s)
byte_then part_.Exponent b bytes kind_.Digit k s = (digit_at b kind_.Digit k refl, s)
byte_then _ b bytes _ k s = absurd s

-- what is read part by part is spelled so
on_part : (next : Option Part) (P Q : Part → Type 0) → ((part : Part) → P part → Q part) → OnPart next P → OnPart next Q
on_part None P Q f h = h
on_part (Some part) P Q f h = f part h

-- bytes that complete a number are spelled by the grammar
spells : (part : Part) (bytes : List ℕ) → Completes bytes part → Spelled part bytes
spells part [] c = ends part c
spells part (b ∷ bytes) c =
    byte_then part b bytes (kind_of b) refl
    (on_part (part_after part (kind_of b)) (Completes bytes) (λ next. Spelled next bytes) (λ next. spells next bytes) c)

-- what is read part by part is a number of the grammar
pub number_spelled : (bytes : List ℕ) → Completes bytes part_.Nothing → IsNumber bytes
number_spelled bytes c = spells part_.Nothing bytes c
