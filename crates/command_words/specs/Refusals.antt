-- What a refusal of words says. This project's own rule.
use Rattle.std.specs.Prelude.{ℕ, List, map}
use Rattle.std.specs.Borrow.{Bor}
use Rattle.std.specs.String.{string_bytes}
use Rattle.std.specs.declared.string.String.{String}
use Rattle.std.specs.declared.alloc.Global.{Global}
use Rattle.command_words.specs.Given.{Given}
use Rattle.command_words.specs.declared.reader.Refusal.{Refusal}
use Rattle.command_words.specs.declared.reader.Refusal.TheVariants.{Usage, NoMemory}

-- the bytes of each word
abbrev pub texts_of : List (String Global) → List (List ℕ)
texts_of words = map string_bytes words

-- a refusal for a word says this of its place; want of memory says nothing
abbrev pub OnUsage : Refusal → (ℕ → Type 0) → Type 0
OnUsage (Usage word) P = P word
OnUsage NoMemory P = Unit {0}

-- the bytes of two borrowed texts
abbrev pub texts_in : Bor (List ℕ) × Bor (List ℕ) → List ℕ × List ℕ
texts_in parts = (parts.0.now, parts.1.now)

-- what a borrowed entry is
abbrev pub now_of : Bor Given → Given
now_of entry = entry.now
