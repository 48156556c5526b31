-- A place in a text, as the tokens that are left there; this joins the code to the words on tokens and
-- readings.
use Rattle.std.specs.Prelude.{◌≡◌, ℕ, true, false, List, [], ◌∷◌, Result, if◌then◌else◌}
use Rattle.std.specs.List.{prefix_len}
use Rattle.item_list.specs.Answer.{Answers}
use Rattle.profile_text.specs.declared.error.TextError.{TextError}
use Rattle.profile_text.specs.declared.error.TextError.TheVariants.{NoMemory}
use Rattle.profile_text.specs.declared.source.Token as Code
use Rattle.profile_text.specs.Read.{Read}
use Rattle.profile_text.specs.Token.{Token, Place, is_ink, is_word_byte}

-- what a token of the code stands for
abbrev pub token_of : Code.Token → Token
token_of t = record { line = t.line; text = t.bytes.now }

-- the text is empty or begins with a byte of a token
abbrev pub BeginsInked : List ℕ → Type 0
BeginsInked [] = Unit {0}
BeginsInked (c ∷ cs) = is_ink false c ≡ true

-- how long the token at the front of a text is
abbrev pub token_len : List ℕ → ℕ
token_len [] = 0
token_len (c ∷ cs) = if is_word_byte c then prefix_len is_word_byte (c ∷ cs) else 1

-- the token is the first one at a place, and the other place stands after it
pub record IsFirst (place : Place) (t : Token) (after : Place) : Type 0 where
  pub tokens : place.tokens ≡ t ∷ after.tokens
  pub last : after.last ≡ t.line

-- a call gives what is read, seen so, and stands at the place after it; or it gives the refusal, or reports
-- want of memory
abbrev pub Reads : {A B : Type 0} → (A → B) → Result (Read B) TextError → Place → Result A TextError → Type 0
Reads view reading after result =
    Answers (λ a. record { value = view a; place = after }) reading NoMemory result
