use Rattle.std.proofs.Common.{◌≡◌, ◌≤◌, List, length}
use Rattle.certificate_text.specs.declared.certificate.Entry.{Entry}
use Rattle.cost_model.specs.declared.parts.Carry.{Carry}
use Rattle.space_search.specs.Rules.{Rules}
use Rattle.route_certificate.specs.Index.{AreRows, HaveRuns}
use Rattle.route_certificate.proofs.runs.join.Given as goal

abbrev pub invariant-rows : goal.invariant-rows
invariant-rows l = (l.place ≤ length l.rows) × (length l.rows ≡ length l.fn.rows) × HaveRuns l.rows l.place
    × ((rules : Rules Carry) (entries : List Entry) → AreRows rules entries l.fn.rows → AreRows rules entries l.rows)

abbrev pub decreases-rows : goal.decreases-rows
decreases-rows l = l.place
