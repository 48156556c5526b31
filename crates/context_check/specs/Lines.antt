-- The line that is printed of a refusal of a profile. This project's own rule.
use Rattle.std.specs.Prelude.{ℕ, List, ◌++◌}
use Rattle.std.specs.Fmt.{decimal}
use lib.Chars.{codes}
use Rattle.context_check.specs.declared.error.CheckError.{CheckError}
use Rattle.context_check.specs.declared.error.CheckError.TheVariants.{UnknownOverride, WrongSection, UnknownName, UnknownTag, UnknownValue, NoCostfactor, NoMemory}

-- the line, without an end of line
abbrev pub check_line : CheckError → List ℕ
check_line (UnknownOverride place) = codes "override " ++ decimal place ++ codes ": unknown name"
check_line (WrongSection line) = codes "profile line " ++ decimal line ++ codes ": wrong section"
check_line (UnknownName line) = codes "profile line " ++ decimal line ++ codes ": unknown name"
check_line (UnknownTag line) = codes "profile line " ++ decimal line ++ codes ": unknown tag"
check_line (UnknownValue line) = codes "profile line " ++ decimal line ++ codes ": unknown value"
check_line NoCostfactor = codes "profile: no costfactor"
check_line NoMemory = codes "out of memory"
