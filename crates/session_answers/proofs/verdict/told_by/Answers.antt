use Rattle.std.proofs.Common.{arith, subst, sym}
use Rattle.route_http.specs.Heads.{IsHeadWithin}
use Rattle.session_answers.proofs.VerdictLemmas.{path-in}
use Rattle.session_answers.specs.Verdicts.{IsVerdictIn}
use Rattle.session_answers.proofs.verdict.told_by.Goals as goal

pub returns-else-ended-clause-within : goal.returns-else-ended-clause-within
returns-else-ended-clause-within c =
    let bytes = c.args.bytes.now in
    let whole = c.in-Whole in
    let within = subst (IsHeadWithin bytes) whole.is c.requires.within in
    subst (IsVerdictIn bytes) (sym c.by_path.ensures.exact)
    (path-in bytes c.of.result.now whole.long whole.method whole.query whole.body within.0
    (record { ordered = within.4; fits = omega (arith, within) }))
