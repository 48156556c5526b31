-- How the code reads the parts of a line; no public clause cites this.
use Rattle.std.specs.Prelude.{◌≡◌, ℕ, ◌<◌, ◌≤◌, ◌^◌, ℤ, Bool, true, List, [], ◌∷◌, ◌++◌, Option, Some, None, option_map, length, get_or, take}
use Rattle.std.specs.Borrow.{Bor}
use Rattle.std.specs.Str.Parse.{AllDigits, digits_value}
use Rattle.item_list.specs.Bytes.{is_digit}
use Rattle.overpass_graph.specs.Names.{step_text}
use Rattle.certificate_text.specs.Lines.{IsBuffer, IsCost, buffers_text, weights_text}

-- a text without a byte like this
abbrev pub HasNo : ℕ → List ℕ → Type 0
HasNo byte [] = Unit {0}
HasNo byte (c ∷ cs) = (c ≡ byte → ⊥) × HasNo byte cs

-- a text that is empty, or begins with this byte
abbrev pub Begins : ℕ → List ℕ → Type 0
Begins byte [] = Unit {0}
Begins byte (c ∷ cs) = c ≡ byte

-- what a text says, where it is printed of something that may stand there; or it is printed of nothing
abbrev pub Reads : {A : Type 0} → (A → List ℕ) → (A → Type 0) → List ℕ → Option A → Type 0
Reads {A} print IsFit text None = (a : A) → IsFit a → text ≡ print a → ⊥
Reads print IsFit text (Some a) = IsFit a × (text ≡ print a)

-- what a text begins with, and what follows it: the front is printed of something that may stand there; or no front is
abbrev pub ReadsAt : {A : Type 0} → (A → List ℕ) → (A → Type 0) → List ℕ → Option (A × List ℕ) → Type 0
ReadsAt {A} print IsFit text None = (a : A) (rest : List ℕ) → IsFit a → text ≡ print a ++ rest → ⊥
ReadsAt print IsFit text (Some p) = IsFit p.0 × (text ≡ print p.0 ++ p.1)

-- the same where this byte stands between both
abbrev pub ReadsTo : {A : Type 0} → ℕ → (A → List ℕ) → (A → Type 0) → List ℕ → Option (A × List ℕ) → Type 0
ReadsTo {A} byte print IsFit text None = (a : A) (rest : List ℕ) → IsFit a → text ≡ print a ++ (byte ∷ rest) → ⊥
ReadsTo byte print IsFit text (Some p) = IsFit p.0 × (text ≡ print p.0 ++ (byte ∷ p.1))

-- what was found at a text's front, and what follows it
abbrev pub told : {A : Type 0} → Option (A × Bor (List ℕ)) → Option (A × List ℕ)
told found = option_map (λ p. (p.0, p.1.now)) found

-- the digits before this place, and the number that they are
pub record IsScanned (text : List ℕ) (place number : ℕ) : Type 0 where
  pub within : place ≤ length text
  pub digits : AllDigits 10 (take place text)
  pub value : number ≡ digits_value 10 (take place text)

-- there is no digit at this place, if it is below 19
abbrev pub Stops : List ℕ → ℕ → Type 0
Stops text place = place < 19 → place < length text → is_digit (get_or text place 0) ≡ true → ⊥

-- some digits, without a needless zero
abbrev pub IsPlain : List ℕ → Type 0
IsPlain digits = (0 < length digits) × (get_or digits 0 0 ≡ 48 → length digits ≡ 1)

-- a number of at most 19 digits
abbrev pub IsShort : ℕ → Type 0
IsShort number = number < 10 ^ 19

-- a number of 32 bits
abbrev pub IsNumber : ℕ → Type 0
IsNumber number = number < 2 ^ 32

-- a segment and a direction
abbrev pub print_step : ℕ × Bool → List ℕ
print_step step = step_text step.0 step.1

abbrev pub IsStep : ℕ × Bool → Type 0
IsStep step = IsNumber step.0 × Unit {0}

-- two buffers
abbrev pub print_buffers : ℤ × ℤ → List ℕ
print_buffers buffers = buffers_text buffers.0 buffers.1

abbrev pub AreBuffers : ℤ × ℤ → Type 0
AreBuffers buffers = IsBuffer buffers.0 × IsBuffer buffers.1

-- a cost and two buffers
abbrev pub print_weights : ℕ × (ℤ × ℤ) → List ℕ
print_weights weights = weights_text weights.0 weights.1.0 weights.1.1

abbrev pub AreWeights : ℕ × (ℤ × ℤ) → Type 0
AreWeights weights = IsCost weights.0 × AreBuffers weights.1
