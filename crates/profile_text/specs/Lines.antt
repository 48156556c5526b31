-- The line that is printed of a refusal of a profile's text.
use Rattle.std.specs.Prelude.{ℕ, List, ◌++◌}
use Rattle.std.specs.Fmt.{decimal}
use lib.Chars.{codes}
use Rattle.profile_text.specs.declared.error.TextError.{TextError}
use Rattle.profile_text.specs.declared.error.TextError.TheVariants.{At, NoMemory}
use Rattle.profile_text.specs.declared.error.TextKind.{TextKind}
use Rattle.profile_text.specs.declared.error.TextKind.TheVariants.{End, Token, Bracket, Section, Number, Deep}

-- the word for a kind of refusal
abbrev pub kind_word : TextKind → List ℕ
kind_word End = codes "end"
kind_word Token = codes "token"
kind_word Bracket = codes "bracket"
kind_word Section = codes "section"
kind_word Number = codes "number"
kind_word Deep = codes "deep"

-- the line, without an end of line
abbrev pub text_line : TextError → List ℕ
text_line (At line kind) = codes "profile line " ++ (decimal line ++ (codes ": " ++ kind_word kind))
text_line NoMemory = codes "out of memory"
