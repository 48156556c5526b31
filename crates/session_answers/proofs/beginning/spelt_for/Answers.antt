use Rattle.std.proofs.Common.{true, false}
use Rattle.session_answers.proofs.QueryLemmas.{read-within}
use Rattle.route_http.specs.declared.form.Form.TheVariants.{GeoJson}
use Rattle.session_answers.proofs.beginning.spelt_for.Goals as goal

pub returns-in-Within-clause-within : goal.returns-in-Within-clause-within
returns-in-Within-clause-within c = read-within true false GeoJson c.args.query.now c.costed_request.result c.costed_request.ensures.exact

pub returns-in-Table-clause-within : goal.returns-in-Table-clause-within
returns-in-Table-clause-within c = read-within false true GeoJson c.args.query.now c.tabled_request.result c.tabled_request.ensures.exact

pub returns-in_default-clause-within : goal.returns-in_default-clause-within
returns-in_default-clause-within c = read-within false false GeoJson c.args.query.now c.request.result c.request.ensures.exact
