-- What was fed is counted.
use Rattle.std.proofs.Common.{◌≡◌, false}
use Rattle.json_text.specs.Scanner.{fed, has_ended}
use Rattle.cases.proofs.json.scanned.Given as goal

abbrev pub invariant-pieces : goal.invariant-pieces
invariant-pieces l = (fed l.scanner ≡ l.total) × (has_ended l.scanner ≡ false)
