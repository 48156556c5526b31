use Rattle.profile_code.specs.Scope.{rows_in}
use Rattle.profile_code.proofs.SectionLemmas.{EmittedUpTo, under}
use Rattle.profile_code.proofs.section.section.Given as goal

abbrev pub invariant-assigns : goal.invariant-assigns
invariant-assigns l =
    EmittedUpTo (rows_in l.scope.tags) l.scope.global.now (under l.overrides l.assigns) l.assign-index
    (record { instrs = l.instrs.items; names = l.names; height = l.height })
