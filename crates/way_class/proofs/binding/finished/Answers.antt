use Rattle.way_class.proofs.binding.finished.Goals as goal

pub steps-preserved : goal.steps-preserved
steps-preserved c =
    let on = rw c.in-More.is at c.step-turn.ensures.steps.turn in
    record { over = on.over; same = λ end later. c.steps.invariant.same end (on.same end later) }
