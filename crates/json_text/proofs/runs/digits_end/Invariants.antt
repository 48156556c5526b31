-- Each byte so far passes.
use Rattle.std.proofs.Common.{length, ◌-◌, ◌≤◌, take, drop}
use Rattle.json_text.specs.Bytes.{AreAll, is_digit}
use Rattle.json_text.proofs.runs.digits_end.Given as goal

abbrev pub invariant-run : goal.invariant-run
invariant-run l = (l.from ≤ l.at) × (l.at ≤ length l.bytes) × AreAll is_digit (take (l.at - l.from) (drop l.from l.bytes))

abbrev pub decreases-run : goal.decreases-run
decreases-run l = length l.bytes - l.at
