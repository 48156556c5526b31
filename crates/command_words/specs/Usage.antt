-- What is told of words that are no command, below the line that names the place. This project's own rule.
use Rattle.std.specs.Prelude.{ℕ, ◌-◌, Option, Some, None, List, [], ◌∷◌, ◌++◌, slice_get, take, codes}
use Rattle.command_words.specs.Command.{command_named}
use Rattle.command_words.specs.Help.{command_text, list_text, pair_text}
use Rattle.command_words.specs.Reasons.{given_before, missing_in, reason_of, reason_text}
use Rattle.command_words.specs.Rows.{keys_of}
use Rattle.command_words.specs.Shown.{shown}
use Rattle.command_words.specs.declared.reason.Reason.{Reason}
use Rattle.command_words.specs.declared.rows.CommandName.{CommandName}
use Rattle.command_words.specs.declared.rows.KeyRow.{KeyRow}

-- a word and why it is at fault
unfoldable pub word_line : List ℕ → Reason → List ℕ
word_line text why = shown text ++ (codes ": " ++ (reason_text why ++ 10 ∷ []))

-- the key that is missing
unfoldable pub missing_line : Option KeyRow → List ℕ
missing_line (Some row) = pair_text row ++ codes ": missing\n"
missing_line None = []

-- a word at fault behind these words
abbrev pub word_fault : List KeyRow → List (List ℕ) → List ℕ → List ℕ
word_fault keys before text = word_line text (reason_of keys (given_before keys before) text)

-- what is missing at the end of these words
abbrev pub end_fault : List KeyRow → List (List ℕ) → List ℕ
end_fault keys texts = missing_line (missing_in keys (given_before keys texts))

-- what is at fault at a place of the words behind a command: the word that stands there, or the key that is
-- missing at their end
abbrev pub fault_at : List KeyRow → List (List ℕ) → ℕ → Option (List ℕ) → List ℕ
fault_at keys texts at (Some text) = word_fault keys (take at texts) text
fault_at keys texts at None = end_fault keys texts

unfoldable pub fault_line : List KeyRow → List (List ℕ) → ℕ → List ℕ
fault_line keys texts at = fault_at keys texts at (slice_get texts at)

-- the first word names no command
unfoldable pub unknown_text : List ℕ → List ℕ
unknown_text name = shown name ++ (codes ": unknown command\n" ++ list_text)

-- what is told of the words behind a first one, which may name a command
abbrev pub usage_by : List ℕ → List (List ℕ) → ℕ → Option CommandName → List ℕ
usage_by name texts word None = unknown_text name
usage_by name texts word (Some command) = fault_line (keys_of command) texts (word - 1) ++ command_text command

-- what is told of words that are at fault at this place: the word and why it is at fault, and the row of its
-- command; of no words and of an unknown command the list of the commands
abbrev pub usage_text : List (List ℕ) → ℕ → List ℕ
usage_text [] word = list_text
usage_text (name ∷ texts) word = usage_by name texts word (command_named name)
