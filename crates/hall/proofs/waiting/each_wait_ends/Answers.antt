-- The law, by the induction over a run.
use Rattle.hall.proofs.WaitingLemmas.{ends_each_wait}
use Rattle.hall.proofs.waiting.each_wait_ends.Goals as goal

pub returns : goal.returns
returns c = record { law = ends_each_wait }
