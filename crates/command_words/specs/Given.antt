-- What a word after a command gives. This project's own rule.
use Rattle.std.specs.Prelude.{ℕ, List}
use Rattle.command_words.specs.declared.rows.Key.{Key}
use Rattle.command_words.specs.declared.value.Value.{Value}

-- a key with its value, the text of the value, and the place of the word
pub record Given : Type 0 where
  pub text : List ℕ
  pub value : Value
  pub word : ℕ
  pub key : Key

-- a word that names a file, or is a query or an address: its value, and the place of the word
pub record Named : Type 0 where
  pub name : List ℕ
  pub word : ℕ
