use Rattle.std.proofs.Common.{◌≤◌, length, arith}
use Rattle.std.proofs.lemmas.Result.{IfOk-weaker}
use Rattle.profile_text.specs.Expr.{assignment_in}
use Rattle.profile_text.proofs.SectionLemmas.{assignment_takes}
use Rattle.profile_text.proofs.read_part.read_part.Goals as goal

pub returns-in_ok-assign-in-Some-clause-more : goal.returns-in_ok-assign-in-Some-clause-more
returns-in_ok-assign-in-Some-clause-more c =
    let less =
    assignment_takes c.args.reader.now c.read_assignment.new.reader
    (assignment_in c.in_ok-assign-in-Some.assign) c.in_ok-assign-in-Some.ensures.exact in
    IfOk-weaker c.push.result _ (λ _. length c.read_assignment.new.reader.tokens ≤ length c.args.reader.now.tokens)
    (λ _ _. omega (arith, less)) c.push.ensures.value
