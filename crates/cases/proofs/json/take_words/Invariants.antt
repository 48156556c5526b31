-- What was fed is counted.
use Rattle.std.proofs.Common.{◌≡◌, false}
use Rattle.json_text.specs.Scanner.{fed, has_ended}
use Rattle.cases.proofs.json.take_words.Given as goal

abbrev pub invariant-words : goal.invariant-words
invariant-words l = (fed l.scanner ≡ l.total) × (has_ended l.scanner ≡ false)
