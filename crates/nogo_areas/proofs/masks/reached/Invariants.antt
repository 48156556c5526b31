use Rattle.nogo_areas.proofs.FenceLemmas.{ReachedBelow}
use Rattle.nogo_areas.proofs.masks.reached.Given as goal

abbrev pub invariant-bounds : goal.invariant-bounds
invariant-bounds l = record { reached : ReachedBelow l.scale l.bounds l.step l.k l.mask }
