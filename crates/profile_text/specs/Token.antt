-- The tokens of a profile's text. This project's own rule.
use Rattle.std.specs.Prelude.{ℕ, ◌+◌, Bool, false, not, ◌&&◌, ◌||◌, List, [], ◌∷◌, ◌==◌, if◌then◌else◌}
use Rattle.item_list.specs.Bytes.{is_space}

-- a token with its line, from 1
pub record Token : Type 0 where
  pub line : ℕ
  pub text : List ℕ

-- a byte that belongs to a token: outside comments, and neither white space nor `#`
abbrev pub is_ink : Bool → ℕ → Bool
is_ink comment c = not comment && (not (is_space c) && not (c == 35))

-- a byte that belongs to a token of several bytes: no bracket
abbrev pub is_word_byte : ℕ → Bool
is_word_byte c = is_ink false c && (not (c == 40) && not (c == 41))

-- after this byte the text is inside a comment
abbrev pub comment_after : Bool → ℕ → Bool
comment_after comment c = not (c == 10) && (comment || (c == 35))

-- the line after this byte
abbrev pub line_after : ℕ → ℕ → ℕ
line_after line c = if c == 10 then line + 1 else line

-- a byte belongs to one token with what follows it
abbrev pub is_joined : ℕ → List ℕ → Bool
is_joined c [] = false
is_joined c (d ∷ ds) = is_word_byte c && is_word_byte d

-- the tokens with one more byte at the front of the first
abbrev pub prepend : ℕ → List Token → List Token
prepend c [] = []
prepend c (t ∷ ts) = record { line = t.line; text = c ∷ t.text } ∷ ts

-- the tokens of a text that begins on this line, inside a comment or outside
abbrev pub tokens_from : Bool → ℕ → List ℕ → List Token
tokens_from comment line [] = []
tokens_from comment line (c ∷ cs) =
    if is_ink comment c
    then (if is_joined c cs then prepend c (tokens_from false line cs)
    else record { line = line; text = c ∷ [] } ∷ tokens_from false line cs)
    else tokens_from (comment_after comment c) (line_after line c) cs

-- a place between tokens: the line of the token before it, and the tokens after it
pub record Place : Type 0 where
  pub last : ℕ
  pub tokens : List Token

-- the place before a text's first token
abbrev pub start_of : List ℕ → Place
start_of text = record { last = 1; tokens = tokens_from false 1 text }
