use Rattle.std.proofs.Common.{length}
use Rattle.map_elements.proofs.CountLemmas.{Counts}
use Rattle.map_elements.proofs.steps.part.Part.group_size.Given as goal

abbrev pub invariant-steps : goal.invariant-steps
invariant-steps l = Counts l.self l.left l.total l.depth

abbrev pub decreases-steps : goal.decreases-steps
decreases-steps l = length l.left
