use Rattle.context_check.proofs.FaultLemmas.{LookedAt}
use Rattle.context_check.specs.Context.{context_of}
use Rattle.context_check.proofs.section.section_names.Given as goal

abbrev pub invariant-assignments : goal.invariant-assignments
invariant-assignments l = LookedAt (context_of l.context) l.own l.assignments l.assign-index
