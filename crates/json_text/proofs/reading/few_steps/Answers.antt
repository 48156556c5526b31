-- Behind each symbol at most one step is given.
use Rattle.json_text.proofs.Counts.{few}
use Rattle.json_text.proofs.reading.few_steps.Goals as goal

pub returns : goal.returns
returns c = record { few = few }
