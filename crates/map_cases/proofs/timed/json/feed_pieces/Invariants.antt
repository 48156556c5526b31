-- What was fed is counted.
use Rattle.std.proofs.Common.{◌≡◌, false, vec_len}
use Rattle.json_text.specs.Scanner.{fed, has_ended}
use Rattle.map_cases.proofs.timed.json.feed_pieces.Given as goal

abbrev pub invariant-pieces : goal.invariant-pieces
invariant-pieces l = (fed l.scanner ≡ l.counts.bytes) × (has_ended l.scanner ≡ false)

abbrev pub decreases-pieces : goal.decreases-pieces
decreases-pieces l = vec_len l.text
