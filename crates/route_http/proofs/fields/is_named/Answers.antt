use Rattle.route_http.proofs.FieldLemmas.{named_is}
use Rattle.route_http.proofs.fields.is_named.Goals as goal

pub returns : goal.returns
returns c = record { exact = named_is c.eq_ignore_ascii_case.result c.args.name.now c.args.word.now c.eq_ignore_ascii_case.ensures.test }
