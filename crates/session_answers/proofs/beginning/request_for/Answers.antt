use Rattle.route_http.specs.Seen.{asked}
use Rattle.session_answers.proofs.QueryLemmas.{limited-within}
use Rattle.session_answers.proofs.beginning.request_for.Goals as goal

pub returns-then-is_taken-clause-within : goal.returns-then-is_taken-clause-within
returns-then-is_taken-clause-within c =
    limited-within c.args.labels (asked c.in_ok-spelt_for.field-0) (asked c.limited-request.result) c.limited-request.ensures.exact
    c.in_ok-spelt_for.ensures.within
