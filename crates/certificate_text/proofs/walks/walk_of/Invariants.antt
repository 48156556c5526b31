use Rattle.std.proofs.Common.{length}
use Rattle.certificate_text.proofs.WalkLemmas.{IsWalking}
use Rattle.certificate_text.proofs.walks.walk_of.Given as goal

abbrev pub invariant-links : goal.invariant-links
invariant-links l = IsWalking l.map l.text l.walk.items l.rest

abbrev pub decreases-links : goal.decreases-links
decreases-links l = length l.rest
