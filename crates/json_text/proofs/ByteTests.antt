-- What a test says, and kinds of bytes.
use Rattle.std.proofs.Common.{◌≡◌, ℕ, ◌≤◌, ◌⊎◌, inl, inr, Bool, true, false, cond, refl, eqb, arith, Some}
use Rattle.std.proofs.lemmas.Bool.Decides.{nat_tests}
use Rattle.json_text.specs.declared.mode.Kind.{Kind}
use Rattle.json_text.specs.declared.mode.Kind.TheVariants as kind_
use Rattle.json_text.specs.declared.mode.Part.{Part}
use Rattle.json_text.specs.declared.mode.Part.TheVariants as part_
use Rattle.json_text.specs.declared.mode.Start.TheVariants as start_
use Rattle.json_text.specs.Bytes.{is_space, kind_of}
use Rattle.json_text.specs.Rest.{part_after}
use Rattle.json_text.specs.Machine.{start_of}

-- a choice took one of its sides
pub chosen : {A : Type 0} {z : A} (t : Bool) (x y : A) → cond t x y ≡ z → ((t ≡ true) × (x ≡ z)) ⊎ ((t ≡ false) × (y ≡ z))
chosen true x y e = inl (refl, e)
chosen false x y e = inr (refl, e)

-- the kinds that begin a number, and their bytes
pub zero_is : (b : ℕ) → kind_of b ≡ kind_.Zero → b ≡ 48
zero_is b e = grind (arith, nat_tests)

-- the minus is one byte
pub minus_is : (b : ℕ) → kind_of b ≡ kind_.Minus → b ≡ 45
minus_is b e = grind (arith, nat_tests)

-- a digit that is not zero lies between one and nine
pub digit_is : (b : ℕ) → kind_of b ≡ kind_.Digit → (49 ≤ b) × (b ≤ 57)
digit_is b e = grind (arith, nat_tests)

-- a byte that begins a number begins nothing else
pub begins_number : (b : ℕ) (part : Part) → part_after part_.Nothing (kind_of b) ≡ Some part
    → (start_of b ≡ start_.Number part) × (is_space b ≡ false) × (eqb b 93 ≡ false)
begins_number b part e = begins_by b part (kind_of b) refl e
  where
    begins_by : (b : ℕ) (part : Part) (kind : Kind) → kind_of b ≡ kind → part_after part_.Nothing kind ≡ Some part
        → (start_of b ≡ start_.Number part) × (is_space b ≡ false) × (eqb b 93 ≡ false)
    begins_by b part kind_.Zero k e = grind (arith, nat_tests, zero_is b k)
    begins_by b part kind_.Digit k e = grind (arith, nat_tests, digit_is b k)
    begins_by b part kind_.Minus k e = grind (arith, nat_tests, minus_is b k)
    begins_by b part kind_.Point k e = cc
    begins_by b part kind_.Letter k e = cc
    begins_by b part kind_.Plus k e = cc
    begins_by b part kind_.Other k e = cc

-- equal by a test
pub eq_of : (b n : ℕ) → eqb b n ≡ true → b ≡ n
eq_of b n e = grind (arith, nat_tests)

-- what holds of both sides holds of the choice
pub by_cond : {A : Type 0} (P : A → Type 0) (t : Bool) (x y : A) → (t ≡ true → P x) → (t ≡ false → P y) → P (cond t x y)
by_cond P true x y f g = f refl
by_cond P false x y f g = g refl

-- a space is nothing of a number
pub space_kind : (b : ℕ) → is_space b ≡ true → kind_of b ≡ kind_.Other
space_kind b e = grind (arith, nat_tests)
