use Rattle.std.proofs.Common.{sym, subst}
use Rattle.context_check.specs.Subject.{subject_of}
use Rattle.profile_code.specs.Correct.{IsCodeOf}
use Rattle.profile_code.specs.Flat.{IsSafe}
use Rattle.profile_code.proofs.BehaveLemmas.{is_code, is_safe}
use Rattle.profile_code.proofs.compiler.compile.Goals as goal

pub invariant_of-result : goal.invariant_of-result
invariant_of-result c =
    subst IsSafe (sym c.in_ok-parts.ensures.value) (is_safe (subject_of c.args.checked.now) c.in_ok-parts.ensures.sound)

pub returns-clause-sound : goal.returns-clause-sound
returns-clause-sound c =
    let subject = subject_of c.args.checked.now in
    subst (IsCodeOf subject) (sym c.in_ok-parts.ensures.value) (is_code subject c.in_ok-parts.ensures.sound)
