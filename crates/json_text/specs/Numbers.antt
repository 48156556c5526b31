-- The numbers of RFC 8259, section 6: number = [ minus ] int [ frac ] [ exp ].
use Rattle.std.specs.Prelude.{ℕ, List, [], ◌∷◌, ◌++◌, ◌≡◌, ◌⊎◌, true}
use Rattle.json_text.specs.declared.mode.Kind.TheVariants as kind_
use Rattle.json_text.specs.Bytes.{AreAll, kind_of, is_digit, is_sign_kind}

-- digits, at least one
abbrev pub IsRun : List ℕ → Type 0
IsRun [] = ⊥
IsRun (b ∷ bytes) = AreAll is_digit (b ∷ bytes)

-- a minus, or nothing
abbrev pub IsMinus : List ℕ → Type 0
IsMinus [] = Unit {0}
IsMinus (b ∷ []) = kind_of b ≡ kind_.Minus
IsMinus (b ∷ c ∷ bytes) = ⊥

-- a zero, or digits of which the first isn't zero
abbrev pub IsInt : List ℕ → Type 0
IsInt [] = ⊥
IsInt (b ∷ bytes) = ((kind_of b ≡ kind_.Zero) × (bytes ≡ [])) ⊎
    ((kind_of b ≡ kind_.Digit) × AreAll is_digit bytes)

-- a point and digits, or nothing
abbrev pub IsFrac : List ℕ → Type 0
IsFrac [] = Unit {0}
IsFrac (b ∷ bytes) = (kind_of b ≡ kind_.Point) × IsRun bytes

-- digits, with a sign before them or not
abbrev pub IsSigned : List ℕ → Type 0
IsSigned [] = ⊥
IsSigned (b ∷ bytes) = AreAll is_digit (b ∷ bytes) ⊎ ((is_sign_kind (kind_of b) ≡ true) × IsRun bytes)

-- a letter e and digits, with a sign before them or not, or nothing
abbrev pub IsExp : List ℕ → Type 0
IsExp [] = Unit {0}
IsExp (b ∷ bytes) = (kind_of b ≡ kind_.Letter) × IsSigned bytes

-- the four parts of a number, one after the other
pub record IsNumber (bytes : List ℕ) : Type 0 where
  pub minus : List ℕ
  pub int : List ℕ
  pub frac : List ℕ
  pub exp : List ℕ
  pub is_minus : IsMinus minus
  pub is_int : IsInt int
  pub is_frac : IsFrac frac
  pub is_exp : IsExp exp
  pub spelled : bytes ≡ minus ++ (int ++ (frac ++ exp))
