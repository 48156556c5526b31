-- The law, by the induction over a run.
use Rattle.hall.proofs.LawLemmas.{keeps_apart}
use Rattle.hall.proofs.law.connections_keep_apart.Goals as goal

pub returns : goal.returns
returns c = record { law = keeps_apart }
