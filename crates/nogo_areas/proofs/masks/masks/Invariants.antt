use Rattle.std.proofs.Common.{◌≡◌, ℕ, ◌<◌, length, get_or}
use Rattle.nogo_areas.specs.Fences.{HasReached}
use Rattle.nogo_areas.proofs.masks.masks.Given as goal

abbrev pub invariant-steps : goal.invariant-steps
invariant-steps l = record {
  long : length l.masks.items ≡ l.step;
  sound : (step : ℕ) → step < l.step → HasReached l.scale l.bounds step (get_or l.masks.items step 0);
}
