-- A text with its steps written into it: what is seen of it, symbol by symbol, and where each step is given.
use Rattle.std.specs.Prelude.{ℕ, List, [], ◌∷◌, ◌++◌, ◌≡◌}
use Rattle.json_text.specs.declared.mode.Bracket.{Bracket}

-- a byte of a text, or the text's end
pub data Symbol : Type 0 where
  Byte : ℕ → Symbol
  End : Symbol

-- the words that stand as values
pub data Literal : Type 0 where
  Yes : Literal
  No : Literal
  Null : Literal

-- a step of a text, with its content
pub data Step : Type 0 where
  Opens : Bracket → Step
  Closes : Bracket → Step
  Key : List ℕ → Step
  Text : List ℕ → Step
  Number : List ℕ → Step
  Word : Literal → Step

-- a symbol is seen, or a step is given
pub data Mark : Type 0 where
  Seen : Symbol → Mark
  Given : Step → Mark

-- these bytes, and then what follows
abbrev pub see : List ℕ → List Mark → List Mark
see [] rest = rest
see (b ∷ bytes) rest = Seen (Byte b) ∷ see bytes rest

-- the symbols among marks
abbrev pub symbols_of : List Mark → List Symbol
symbols_of [] = []
symbols_of (Seen x ∷ marks) = x ∷ symbols_of marks
symbols_of (Given s ∷ marks) = symbols_of marks

-- the steps among marks
abbrev pub steps_of : List Mark → List Step
steps_of [] = []
steps_of (Seen x ∷ marks) = steps_of marks
steps_of (Given s ∷ marks) = s ∷ steps_of marks

-- the symbols of bytes
abbrev pub symbols : List ℕ → List Symbol
symbols [] = []
symbols (b ∷ bytes) = Byte b ∷ symbols bytes

-- the first list is the beginning of the second
pub record Begins {A : Type 0} (front whole : List A) : Type 0 where
  pub rest : List A
  pub same : whole ≡ front ++ rest
