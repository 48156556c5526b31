use Rattle.way_class.specs.Stages.{IsUnderWay, MayEnd, work_left}
use Rattle.way_class.proofs.binding.finished.Given as goal

abbrev pub invariant-steps : goal.invariant-steps
invariant-steps l = record {
  over : IsUnderWay l.code l.table l.map l.tiles l.binder;
  same : (end : _) → MayEnd l.code l.table l.map l.tiles l.binder end →
      MayEnd l.code l.table l.map l.tiles l.initial.binder end;
}

abbrev pub decreases-steps : goal.decreases-steps
decreases-steps l = work_left l.map l.binder
