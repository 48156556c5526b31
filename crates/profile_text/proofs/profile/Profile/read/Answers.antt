use Rattle.std.proofs.lemmas.Result.{err_from_is_err_and}
use Rattle.profile_text.proofs.PartLemmas.{reads_first, reads_all, reads_part, reads_refusal}
use Rattle.profile_text.proofs.SectionFaultLemmas.{profile_cause}
use Rattle.profile_text.proofs.SectionLemmas.{read_profile, only_read, only_memory}
use Rattle.profile_text.proofs.profile.Profile.read.Goals as goal

pub parts-init : goal.parts-init
parts-init c =
    reads_first c.args.text.now c.new.result c.new-2.result c.new-3.result c.new-reader.result c.new.ensures.value c.new-2.ensures.value
    c.new-3.ensures.value c.new-reader.ensures.value

pub returns-in_err-section-clause-exact : goal.returns-in_err-section-clause-exact
returns-in_err-section-clause-exact c =
    let p = err_from_is_err_and c.from_residual.result c.from_residual.ensures.1 in
    rw (p.1, p.2) (reads_refusal _ _ _ _ c.parts.invariant c.in-Some.ensures.value _ c.in_err-section.ensures.exact)

pub returns-in_err-section-clause-only : goal.returns-in_err-section-clause-only
returns-in_err-section-clause-only c = λ p spells.
    let q = err_from_is_err_and c.from_residual.result c.from_residual.ensures.1 in
    rw (q.1, q.2)
    (only_memory c.args.text.now _ p
    (reads_refusal _ _ _ _ c.parts.invariant c.in-Some.ensures.value _ c.in_err-section.ensures.exact) spells)

pub parts-preserved : goal.parts-preserved
parts-preserved c =
    reads_part _ _ _ _ c.parts.invariant c.in-Some.ensures.value _ c.in_ok-section.ensures.exact c.in_ok-section.ensures.more

pub returns-clause-exact : goal.returns-clause-exact
returns-clause-exact c = reads_all _ _ c.parts.invariant c.in_default.ensures.value

pub returns-clause-found : goal.returns-clause-found
returns-clause-found c = read_profile _ _ (reads_all _ _ c.parts.invariant c.in_default.ensures.value)

pub returns-clause-only : goal.returns-clause-only
returns-clause-only c = λ p spells. only_read _ _ p (reads_all _ _ c.parts.invariant c.in_default.ensures.value) spells

pub returns-in_err-section-clause-cause : goal.returns-in_err-section-clause-cause
returns-in_err-section-clause-cause c =
    let p = err_from_is_err_and c.from_residual.result c.from_residual.ensures.1 in
    rw (p.1, p.2)
    (profile_cause c.args.text.now _ (reads_refusal _ _ _ _ c.parts.invariant c.in-Some.ensures.value _ c.in_err-section.ensures.exact))
