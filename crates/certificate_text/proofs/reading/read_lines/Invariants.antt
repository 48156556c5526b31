use Rattle.std.proofs.Common.{◌++◌, ◌∷◌, [], length}
use Rattle.certificate_text.specs.Drafts.{IsReading}
use Rattle.certificate_text.specs.Lines.{Head, lines_of}
use Rattle.certificate_text.proofs.reading.read_lines.Given as goal

abbrev pub invariant-lines : goal.invariant-lines
invariant-lines l = IsReading l.map (lines_of l.map (Head l.bound ∷ []) ++ l.text) l.bound l.number l.rest l.draft

abbrev pub decreases-lines : goal.decreases-lines
decreases-lines l = length l.rest
