use Rattle.std.proofs.Common.{◌-◌, length}
use Rattle.route_certificate.specs.Index.{IsRunTo}
use Rattle.route_certificate.proofs.runs.run_of.Given as goal

abbrev pub invariant-runs : goal.invariant-runs
invariant-runs l = IsRunTo l.rows l.place l.low l.end

abbrev pub decreases-runs : goal.decreases-runs
decreases-runs l = length l.rows - l.end
