use Rattle.std.proofs.Common.{◌+◌, subst, sym, arith}
use Rattle.nogo_areas.proofs.FenceLemmas.{ReachedBelow, mask-set, mask-kept}
use Rattle.nogo_areas.proofs.masks.reached.Goals as goal
use Rattle.nogo_areas.proofs.masks.reached.Goals.{then-step, else-step}

pub bounds-preserved : goal.bounds-preserved
bounds-preserved c =
    let few = c.min-k-end.ensures in
    elim c.if-step.branch [
      | then-step w ↦ record {
        reached = subst (ReachedBelow c.args.scale c.args.bounds.now c.args.step (c.bounds.k + 1)) (sym w.mask-is)
            (mask-set c.args.scale c.args.bounds.now c.args.step c.bounds.k c.bounds.mask (omega arith) c.bounds.invariant.reached);
      }
      | else-step w ↦ record {
        reached = subst (ReachedBelow c.args.scale c.args.bounds.now c.args.step (c.bounds.k + 1)) (sym w.mask-is)
            (mask-kept c.args.scale c.args.bounds.now c.args.step c.bounds.k c.bounds.mask (omega (arith, w.if-step, c.step.ensures.value))
            c.bounds.invariant.reached);
      }
    ]
