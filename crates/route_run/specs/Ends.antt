-- How an answer ends over a sink. This project's own rule.
use Rattle.std.specs.Prelude.{ℕ, ◌≡◌, List, Result, Ok, Err}
use Rattle.edge_io.specs.Sink.{SinkSeen, Grows, BreaksOff}
use Rattle.run_files.specs.declared.status.Status.{Status}
use Rattle.run_files.specs.declared.status.Status.TheVariants.{Done, WriteFault}

-- bytes are written whole, or a front of them before a write fault; of a refusal nothing is written, and it
-- is the status
abbrev pub Ends : Result (List ℕ) Status → Status → SinkSeen → SinkSeen → Type 0
Ends (Ok bytes) Done old new = Grows old new bytes
Ends (Ok bytes) WriteFault old new = BreaksOff old new bytes
Ends (Ok bytes) status old new = ⊥
Ends (Err refusal) status old new = (status ≡ refusal) × (new ≡ old)
