use Rattle.std.proofs.Common.{◌≡◌, map, take}
use Rattle.context_check.specs.Refusal.{names_in}
use Rattle.profile_text.specs.Expr.{assignment_in}
use Rattle.context_check.proofs.profile.names_of.Given as goal

abbrev pub invariant-assignments : goal.invariant-assignments
invariant-assignments l = l.names ≡ names_in (map assignment_in (take l.assign-index l.assignments))
