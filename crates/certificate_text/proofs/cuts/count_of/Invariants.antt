use Rattle.std.proofs.Common.{◌≤◌}
use Rattle.certificate_text.proofs.cuts.count_of.Given as goal

abbrev pub invariant-bytes : goal.invariant-bytes
invariant-bytes l = l.count ≤ l.place
