use Rattle.session_answers.proofs.ReceivedLemmas.{more-first}
use Rattle.session_answers.proofs.received.Received.new.Goals as goal

pub invariant_of-result : goal.invariant_of-result
invariant_of-result c = record { heads = more-first c.new.result.items cc }
