-- The line that is printed of a refusal of a tag table.
use Rattle.std.specs.Prelude.{ℕ, List, ◌++◌}
use Rattle.std.specs.Fmt.{decimal}
use lib.Chars.{codes}
use Rattle.lookup_table.specs.declared.error.LookupError.{LookupError}
use Rattle.lookup_table.specs.declared.error.LookupError.TheVariants.{Line, TooMany, Version, FirstTag, NoMemory}
use Rattle.lookup_table.specs.declared.part.Part.TheVariants.{Way, Node}

-- the line, without an end of line
abbrev pub lookup_line : LookupError → List ℕ
lookup_line (Line line) = codes "lookup line " ++ decimal line
lookup_line (TooMany line) = codes "too many at line " ++ decimal line
lookup_line Version = codes "lookup version"
lookup_line (FirstTag Way) = codes "first tag of way part"
lookup_line (FirstTag Node) = codes "first tag of node part"
lookup_line NoMemory = codes "out of memory"
