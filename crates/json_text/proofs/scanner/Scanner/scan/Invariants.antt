-- The scanner reads on; each byte is read once.
use Rattle.std.proofs.Common.{vec_len, ◌-◌}
use Rattle.json_text.specs.Told.{ReadsOn}
use Rattle.json_text.proofs.scanner.Scanner.scan.Given as goal

abbrev pub invariant-symbols : goal.invariant-symbols
invariant-symbols l = ReadsOn l.initial.self l.self

abbrev pub decreases-symbols : goal.decreases-symbols
decreases-symbols l = vec_len l.self.input - l.self.read
