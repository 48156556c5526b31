-- What was fed is counted.
use Rattle.std.proofs.Common.{◌≡◌, false}
use Rattle.json_text.specs.Scanner.{fed, has_ended}
use Rattle.map_cases.proofs.timed.json.feed_blocks.Given as goal

abbrev pub invariant-elements : goal.invariant-elements
invariant-elements l = (fed l.scanner ≡ l.counts.bytes) × (has_ended l.scanner ≡ false)
