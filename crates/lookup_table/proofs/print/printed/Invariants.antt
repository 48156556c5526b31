use Rattle.lookup_table.proofs.TextLemmas.{PrintsOn}
use Rattle.lookup_table.proofs.print.printed.Given as goal

abbrev pub invariant-loop-place : goal.invariant-loop-place
invariant-loop-place l = PrintsOn l.rows l.numbers l.out.items l.is_first l.place
