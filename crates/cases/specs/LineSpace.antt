-- The space that a line of the program is.
use Rattle.std.specs.Prelude.{ℕ}
use Rattle.cases.specs.Line.{line_rules}
use Rattle.cases.specs.declared.line.Line.{Line}
use Rattle.space_search.specs.Rules.{Rules}

-- the space that a line is
abbrev pub rules_of : Line → Rules (ℕ × ℕ)
rules_of line = line_rules line.cells line.goal line.starts line.steps
