-- The texts of RFC 8259, section 7: their characters, how they are spelled, and what they stand for.
use Rattle.std.specs.Prelude.{ℕ, ◌+◌, ◌*◌, ◌/◌, ◌%◌, List, [], ◌∷◌, ◌++◌, ◌≡◌, Bool, true, if◌then◌else◌, Option, Some, None, nat_lt}
use Rattle.json_text.specs.declared.mode.Lead.{Lead}
use Rattle.json_text.specs.declared.mode.Lead.TheVariants as lead_
use Rattle.json_text.specs.declared.mode.Escape.TheVariants as escape_
use Rattle.json_text.specs.declared.mode.Role.{Role}
use Rattle.json_text.specs.declared.mode.Role.TheVariants as role_
use Rattle.json_text.specs.Marks.{Byte, Step, Mark, Seen, Given, see}
use Rattle.json_text.specs.Bytes.{is_within, AreIn, ranges_of, lead_of, escape_of, is_hex, hex_value}

-- a character as it is written: its own bytes, a byte and the letter that stands for it behind a backslash,
-- or the four digits of a code unit of UTF-16
pub data Char : Type 0 where
  Plain : List ℕ → Char
  Short : ℕ → ℕ → Char
  Coded : ℕ → ℕ → ℕ → ℕ → Char

-- bytes that may follow a first byte of this kind
abbrev pub Follow : Lead → List ℕ → Type 0
Follow lead_.Whole bytes = bytes ≡ []
Follow (lead_.Longer tail) bytes = AreIn (ranges_of tail) bytes
Follow _ bytes = ⊥

-- one character of UTF-8, neither a quotation mark nor a backslash nor a control
abbrev pub IsPlain : List ℕ → Type 0
IsPlain [] = ⊥
IsPlain (b ∷ bytes) = Follow (lead_of b) bytes

-- a character that may stand in a text
abbrev pub IsChar : Char → Type 0
IsChar (Plain bytes) = IsPlain bytes
IsChar (Short b letter) = escape_of letter ≡ escape_.Short b
IsChar (Coded a b c d) = (is_hex a ≡ true) × (is_hex b ≡ true) × (is_hex c ≡ true) × (is_hex d ≡ true)

-- each character may
abbrev pub AreChars : List Char → Type 0
AreChars [] = Unit {0}
AreChars (c ∷ chars) = IsChar c × AreChars chars

-- how a character is spelled
abbrev pub spelled : Char → List ℕ
spelled (Plain bytes) = bytes
spelled (Short b letter) = 92 ∷ letter ∷ []
spelled (Coded a b c d) = 92 ∷ 117 ∷ a ∷ b ∷ c ∷ d ∷ []

-- the characters, and then what follows
abbrev pub print_chars : List Char → List Mark → List Mark
print_chars [] rest = rest
print_chars (c ∷ chars) rest = see (spelled c) (print_chars chars rest)

-- the bytes of a code point in UTF-8
abbrev pub utf8 : ℕ → List ℕ
utf8 n =
    if nat_lt n 128 then n ∷ [] else
    if nat_lt n 2048 then (192 + n / 64) ∷ (128 + n % 64) ∷ [] else
    if nat_lt n 65536 then (224 + n / 4096) ∷ (128 + n / 64 % 64) ∷ (128 + n % 64) ∷ [] else
    (240 + n / 262144) ∷ (128 + n / 4096 % 64) ∷ (128 + n / 64 % 64) ∷ (128 + n % 64) ∷ []

-- the first half of a pair of surrogates
abbrev pub is_high : ℕ → Bool
is_high unit = is_within 55296 56319 unit

-- the second half of a pair of surrogates
abbrev pub is_low : ℕ → Bool
is_low unit = is_within 56320 57343 unit

-- the code point of a pair: ten bits of each half
abbrev pub pair_of : ℕ → ℕ → ℕ
pair_of high low = 65536 + (high % 1024 * 1024 + low % 1024)

-- the code unit of four hexadecimal digits
abbrev pub unit_of : ℕ → ℕ → ℕ → ℕ → ℕ
unit_of a b c d = ((hex_value a * 16 + hex_value b) * 16 + hex_value c) * 16 + hex_value d

-- a first half that no second one follows stands for U+FFFD
abbrev pub lone : Option ℕ → List ℕ
lone None = []
lone (Some high) = 239 ∷ 191 ∷ 189 ∷ []

-- what a second half stands for
abbrev pub second : Option ℕ → ℕ → List ℕ
second None low = 239 ∷ 191 ∷ 189 ∷ []
second (Some high) low = utf8 (pair_of high low)

-- what a code unit adds to the content, where a first half may wait
abbrev pub unit_bytes : Option ℕ → ℕ → List ℕ
unit_bytes waiting unit =
    if is_high unit then lone waiting else
    if is_low unit then second waiting unit else lone waiting ++ utf8 unit

-- the first half that waits behind a code unit
abbrev pub waits : ℕ → Option ℕ
waits unit = if is_high unit then Some unit else None

-- what characters stand for, where a first half may wait before them
abbrev pub content_of : Option ℕ → List Char → List ℕ
content_of waiting [] = lone waiting
content_of waiting (Plain bytes ∷ chars) = lone waiting ++ (bytes ++ content_of None chars)
content_of waiting (Short b letter ∷ chars) = lone waiting ++ (b ∷ content_of None chars)
content_of waiting (Coded a b c d ∷ chars) = unit_bytes waiting (unit_of a b c d) ++
    content_of (waits (unit_of a b c d)) chars

-- the step that a text gives
abbrev pub text_step : Role → List ℕ → Step
text_step role_.Name content = Step.Key content
text_step role_.Value content = Step.Text content

-- the quotation mark that ends a text, and its step
abbrev pub close_text : Role → List ℕ → List Mark → List Mark
close_text role content rest = Seen (Byte 34) ∷ Given (text_step role content) ∷ rest

-- a text between its quotation marks
abbrev pub print_text : Role → List Char → List Mark → List Mark
print_text role chars rest = Seen (Byte 34) ∷ print_chars chars (close_text role (content_of None chars) rest)
