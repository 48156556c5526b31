use Rattle.std.proofs.Common.{◌≡◌, ◌≤◌, ◌-◌, length, take, None}
use Rattle.route_http.specs.Ends.{end_of}
use Rattle.run_cases.proofs.request.heads.fed.Given as goal

abbrev pub invariant-bytes : goal.invariant-bytes
invariant-bytes l = record { fits : l.came ≤ length l.bytes; none : end_of (take l.came l.bytes) ≡ None }

abbrev pub decreases-bytes : goal.decreases-bytes
decreases-bytes l = length l.bytes - l.came
