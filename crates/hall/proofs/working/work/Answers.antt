use Rattle.hall.proofs.SweepLemmas.{works_same}
use Rattle.hall.proofs.working.work.Goals as goal

pub returns-clause-works : goal.returns-clause-works
returns-clause-works c = works_same _ _ _ _ c.give_turn.ensures.works c.sweep.ensures.state
