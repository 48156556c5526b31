-- Kinds of bytes: RFC 8259 for white space, numbers and escapes, RFC 3629 for characters of several bytes.
use Rattle.std.specs.Prelude.{ℕ, ◌-◌, List, [], ◌∷◌, ◌≡◌, Bool, true, false, if◌then◌else◌, ◌==◌, nat_le, nat_lt, ◌&&◌, ◌||◌, not}
use Rattle.json_text.specs.declared.mode.Kind.{Kind}
use Rattle.json_text.specs.declared.mode.Kind.TheVariants as kind_
use Rattle.json_text.specs.declared.mode.Tail.{Tail}
use Rattle.json_text.specs.declared.mode.Tail.TheVariants as tail_
use Rattle.json_text.specs.declared.mode.Lead.{Lead}
use Rattle.json_text.specs.declared.mode.Lead.TheVariants as lead_
use Rattle.json_text.specs.declared.mode.Escape.{Escape}
use Rattle.json_text.specs.declared.mode.Escape.TheVariants as escape_

-- each byte of a list passes a test
abbrev pub AreAll : (ℕ → Bool) → List ℕ → Type 0
AreAll p [] = Unit {0}
AreAll p (b ∷ bytes) = (p b ≡ true) × AreAll p bytes

-- the numbers from one to another
abbrev pub is_within : ℕ → ℕ → ℕ → Bool
is_within low high b = nat_le low b && nat_le b high

-- white space: a blank, a tab, the end of a line
abbrev pub is_space : ℕ → Bool
is_space b = (b == 32) || (b == 10) || (b == 13) || (b == 9)

-- what a byte can be in a number
abbrev pub kind_of : ℕ → Kind
kind_of b =
    if b == 48 then kind_.Zero else
    if is_within 49 57 b then kind_.Digit else
    if b == 46 then kind_.Point else
    if (b == 69) || (b == 101) then kind_.Letter else
    if b == 43 then kind_.Plus else
    if b == 45 then kind_.Minus else kind_.Other

-- a digit, zero or another
abbrev pub is_digit_kind : Kind → Bool
is_digit_kind kind_.Zero = true
is_digit_kind kind_.Digit = true
is_digit_kind _ = false

-- a plus or a minus
abbrev pub is_sign_kind : Kind → Bool
is_sign_kind kind_.Plus = true
is_sign_kind kind_.Minus = true
is_sign_kind _ = false

-- a digit
abbrev pub is_digit : ℕ → Bool
is_digit b = is_digit_kind (kind_of b)

-- a hexadecimal digit
abbrev pub is_hex : ℕ → Bool
is_hex b = is_within 48 57 b || is_within 65 70 b || is_within 97 102 b

-- the number that a hexadecimal digit stands for
abbrev pub hex_value : ℕ → ℕ
hex_value b = if is_within 48 57 b then b - 48 else if is_within 65 70 b then b - 55 else if is_within 97 102
    b then b - 87 else 0

-- the ranges that RFC 3629 knows for a byte that isn't the first of its character
pub data Range : Type 0 where
  Any : Range
  FromA0 : Range
  To9F : Range
  From90 : Range
  To8F : Range

-- a byte lies in a range
abbrev pub is_in : Range → ℕ → Bool
is_in Any b = is_within 128 191 b
is_in FromA0 b = is_within 160 191 b
is_in To9F b = is_within 128 159 b
is_in From90 b = is_within 144 191 b
is_in To8F b = is_within 128 143 b

-- the ranges of the bytes that are still to come of a character
abbrev pub ranges_of : Tail → List Range
ranges_of tail_.One = Any ∷ []
ranges_of tail_.Two = Any ∷ Any ∷ []
ranges_of tail_.Three = Any ∷ Any ∷ Any ∷ []
ranges_of tail_.BehindE0 = FromA0 ∷ Any ∷ []
ranges_of tail_.BehindEd = To9F ∷ Any ∷ []
ranges_of tail_.BehindF0 = From90 ∷ Any ∷ Any ∷ []
ranges_of tail_.BehindF4 = To8F ∷ Any ∷ Any ∷ []

-- each byte lies in the range of its place, and there are as many of both
abbrev pub AreIn : List Range → List ℕ → Type 0
AreIn [] [] = Unit {0}
AreIn [] (b ∷ bytes) = ⊥
AreIn (r ∷ ranges) [] = ⊥
AreIn (r ∷ ranges) (b ∷ bytes) = (is_in r b ≡ true) × AreIn ranges bytes

-- what a byte begins between quotation marks: RFC 3629's table of first bytes, without the control bytes
abbrev pub lead_of : ℕ → Lead
lead_of b =
    if nat_lt b 32 then lead_.Nothing else
    if b == 34 then lead_.Quote else
    if b == 92 then lead_.Backslash else
    if nat_lt b 128 then lead_.Whole else
    if nat_lt b 194 then lead_.Nothing else
    if nat_lt b 224 then lead_.Longer tail_.One else
    if b == 224 then lead_.Longer tail_.BehindE0 else
    if b == 237 then lead_.Longer tail_.BehindEd else
    if nat_lt b 240 then lead_.Longer tail_.Two else
    if b == 240 then lead_.Longer tail_.BehindF0 else
    if nat_lt b 244 then lead_.Longer tail_.Three else
    if b == 244 then lead_.Longer tail_.BehindF4 else lead_.Nothing

-- what a byte behind a backslash stands for
abbrev pub escape_of : ℕ → Escape
escape_of b =
    if b == 34 then escape_.Short 34 else
    if b == 92 then escape_.Short 92 else
    if b == 47 then escape_.Short 47 else
    if b == 98 then escape_.Short 8 else
    if b == 102 then escape_.Short 12 else
    if b == 110 then escape_.Short 10 else
    if b == 114 then escape_.Short 13 else
    if b == 116 then escape_.Short 9 else
    if b == 117 then escape_.Coded else escape_.Nothing

-- a byte that stands for itself between quotation marks, and is a character alone
abbrev pub is_plain : ℕ → Bool
is_plain b = nat_le 32 b && nat_lt b 128 && not (b == 34) && not (b == 92)
