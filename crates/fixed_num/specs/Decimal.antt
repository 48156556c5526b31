-- Decimal texts, this project's own rule: an optional `-`, digits, and an optional point with digits.
use Rattle.std.specs.Prelude.{◌≡◌, ℕ, ◌+◌, ◌-◌, ◌*◌, ◌/◌, ◌^◌, ◌<◌, Bool, true, false, ◌&&◌, List, [], ◌∷◌, ◌++◌, length, take, drop, ℤ, pos, neg_ℤ, nat_le, ◌==◌, if◌then◌else◌, Option, Some, None, Result, Ok, Err, IsTrue}
use Rattle.std.specs.Char.{is_ascii_digit}
use Rattle.std.specs.List.{prefix_len}
use Rattle.std.specs.Str.{all_ascii_digits}

-- ---- The grammar

-- the parts of a decimal text; where no digits follow the point, there is no point
pub record Decimal : Type 0 where
  pub is_negative : Bool
  pub whole : List ℕ
  pub fraction : List ℕ

-- the sign as it is written
abbrev pub sign_text : Bool → List ℕ
sign_text true = 45 ∷ []
sign_text false = []

-- the digits after the point with the point, or nothing
abbrev pub fraction_text : List ℕ → List ℕ
fraction_text [] = []
fraction_text (c ∷ cs) = 46 ∷ c ∷ cs

-- the text that spells the parts
abbrev pub decimal_text : Decimal → List ℕ
decimal_text d = sign_text d.is_negative ++ (d.whole ++ fraction_text d.fraction)

-- the parts are those of a decimal text: digits alone, and at least one before the point
pub record IsDecimal (d : Decimal) : Type 0 where
  pub some_whole : 0 < length d.whole
  pub whole_digits : IsTrue (all_ascii_digits d.whole)
  pub fraction_digits : IsTrue (all_ascii_digits d.fraction)

-- the text spells these parts
pub record Spells (text : List ℕ) (d : Decimal) : Type 0 where
  pub valid : IsDecimal d
  pub text_is : text ≡ decimal_text d

-- the text is a decimal text
abbrev pub IsSpelled : List ℕ → Type 0
IsSpelled text = (d : Decimal) × Spells text d

-- ---- What a decimal text stands for

-- the whole number that digits spell, after the number that the digits before them spell
abbrev pub digits_after : ℕ → List ℕ → ℕ
digits_after n [] = n
digits_after n (c ∷ cs) = digits_after (10 * n + (c - 48)) cs

-- the whole number that all digits spell where the point is left out
abbrev pub digits_number : Decimal → ℕ
digits_number d = digits_after 0 (d.whole ++ d.fraction)

-- the size in millionths, cut after the sixth decimal
unfoldable pub cut_millionths : Decimal → ℕ
cut_millionths d = digits_number d * 1000000 / 10 ^ length d.fraction

-- the size in millionths, rounded half up at the sixth decimal: half a millionth is added, and the sum is cut
unfoldable pub rounded_millionths : Decimal → ℕ
rounded_millionths d = (2 * digits_number d * 1000000 + 10 ^ length d.fraction) / (2 * 10 ^ length d.fraction)

-- a size with its sign
abbrev pub with_sign : Bool → ℕ → ℤ
with_sign true n = neg_ℤ (pos n)
with_sign false n = pos n

-- the text spells a decimal whose size, by this measure and with its sign, is n
abbrev pub SpellsValue : (Decimal → ℕ) → List ℕ → ℤ → Type 0
SpellsValue size text n = (d : Decimal) × Spells text d × (n ≡ with_sign d.is_negative (size d))

-- the value of a decimal whose size is within a limit; `bad` where there is no decimal, and `large` beyond
-- the limit
abbrev pub value_from : {E : Type 0} → (Decimal → ℕ) → ℕ → E → E → Option Decimal → Result ℤ E
value_from size limit bad large None = Err bad
value_from size limit bad large (Some d) =
    if nat_le (size d) limit then Ok (with_sign d.is_negative (size d)) else Err large

-- ---- The parts of a text

-- how many digits stand at the front
abbrev pub leading_digits : List ℕ → ℕ
leading_digits text = prefix_len is_ascii_digit text

-- the bytes after a point are digits, and at least one
abbrev pub is_fraction : List ℕ → Bool
is_fraction [] = false
is_fraction (c ∷ cs) = all_ascii_digits (c ∷ cs)

-- what follows the digits before the point: nothing, or a point and digits
abbrev pub tail_of : List ℕ → Option (List ℕ)
tail_of [] = Some []
tail_of (c ∷ cs) = if (c == 46) && is_fraction cs then Some cs else None

-- the parts, where the digits before the point and the digits after it are known
abbrev pub parts_from : Bool → List ℕ → Option (List ℕ) → Option Decimal
parts_from negative [] fraction = None
parts_from negative (c ∷ cs) None = None
parts_from negative (c ∷ cs) (Some fraction) =
    Some (record { is_negative = negative; whole = c ∷ cs; fraction = fraction })

-- the parts of a text after its sign
abbrev pub unsigned_parts : Bool → List ℕ → Option Decimal
unsigned_parts negative text =
    parts_from negative (take (leading_digits text) text) (tail_of (drop (leading_digits text) text))

-- the parts of a text, or nothing where it is no decimal text
abbrev pub parts_of : List ℕ → Option Decimal
parts_of [] = None
parts_of (c ∷ cs) = if c == 45 then unsigned_parts true cs else unsigned_parts false (c ∷ cs)
