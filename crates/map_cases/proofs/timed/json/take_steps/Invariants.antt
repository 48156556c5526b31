-- Taking steps feeds nothing.
use Rattle.std.proofs.Common.{◌≡◌}
use Rattle.json_text.specs.Scanner.{fed, has_ended}
use Rattle.map_cases.proofs.timed.json.take_steps.Given as goal

abbrev pub invariant-steps : goal.invariant-steps
invariant-steps l = (fed l.scanner ≡ fed l.initial.scanner) × (has_ended l.scanner ≡ has_ended l.initial.scanner)
    × (l.counts.bytes ≡ l.initial.counts.bytes)
