-- The number goes on so far.
use Rattle.std.proofs.Common.{length, ◌-◌, ◌≤◌, take, drop}
use Rattle.json_text.specs.Told.{PartsGo}
use Rattle.json_text.proofs.runs.number_end.Given as goal

abbrev pub invariant-run : goal.invariant-run
invariant-run l = (l.from ≤ l.at) × (l.at ≤ length l.bytes) × PartsGo l.fn.part (take (l.at - l.from) (drop l.from l.bytes)) l.last

abbrev pub decreases-run : goal.decreases-run
decreases-run l = length l.bytes - l.at
