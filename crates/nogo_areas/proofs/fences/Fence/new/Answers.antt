use Rattle.std.proofs.Common.{subst, ◌<◌, get_or, ℕ}
use Rattle.nogo_areas.specs.Fences.{HasReached}
use Rattle.nogo_areas.proofs.FenceLemmas.{fence-sound}
use Rattle.nogo_areas.proofs.fences.Fence.new.Goals as goal

pub returns : goal.returns
returns c = record {
  sound = fence-sound c.args.side c.over-scale.result c.in_ok-masks.masks.items c.in_ok-bounds.bounds.items c.args.circles.now
      c.in_ok-bounds.ensures.sound
      (subst (λ bounds. (step : ℕ) → step < 1024 →
      HasReached c.over-scale.result bounds step (get_or c.in_ok-masks.masks.items step 0)) c.deref-2.ensures.value
      c.in_ok-masks.ensures.sound);
}
