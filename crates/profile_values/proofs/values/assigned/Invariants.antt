use Rattle.std.proofs.Common.{◌≡◌, [], drop, map}
use Rattle.profile_text.specs.Expr.{assignment_in}
use Rattle.profile_text.specs.Meaning.{values_from}
use Rattle.profile_values.specs.Scope.{looks_among}
use Rattle.profile_values.proofs.values.assigned.Given as goal

abbrev pub invariant-assignments : goal.invariant-assignments
invariant-assignments l =
    values_from (looks_among l.has_looks l.tagged) l.global [] (map assignment_in l.assignments)
    ≡ values_from (looks_among l.has_looks l.tagged) l.global l.own (map assignment_in (drop l.assign-index l.assignments))
