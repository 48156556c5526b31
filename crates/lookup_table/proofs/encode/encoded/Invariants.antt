use Rattle.lookup_table.proofs.EncodeLemmas.{EncodesOn}
use Rattle.lookup_table.proofs.encode.encoded.Given as goal

abbrev pub invariant-loop-place : goal.invariant-loop-place
invariant-loop-place l = EncodesOn l.rows l.tags l.numbers.items l.place

abbrev pub decreases-loop-place : goal.decreases-loop-place
decreases-loop-place l = l.place
