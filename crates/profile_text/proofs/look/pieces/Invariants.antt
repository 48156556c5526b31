use Rattle.std.proofs.Common.{◌≡◌, ◌++◌, length}
use Rattle.profile_text.specs.Look.{pieces}
use Rattle.profile_text.proofs.look.pieces.Given as goal

abbrev pub invariant-pieces : goal.invariant-pieces
invariant-pieces l = pieces l.text ≡ l.values ++ pieces l.rest

abbrev pub decreases-pieces : goal.decreases-pieces
decreases-pieces l = length l.rest
