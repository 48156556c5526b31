use Rattle.std.proofs.Common.{length}
use Rattle.lookup_table.proofs.ReadLemmas.{ReadsOn}
use Rattle.lookup_table.proofs.lines.draft_of.Given as goal

abbrev pub invariant-lines : goal.invariant-lines
invariant-lines l = ReadsOn l.text l.number l.rest l.draft

abbrev pub decreases-lines : goal.decreases-lines
decreases-lines l = length l.rest
