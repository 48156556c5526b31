use Rattle.std.proofs.Common.{sym}
use Rattle.route_http.proofs.EndLemmas.{found_from}
use Rattle.route_http.proofs.ends.head_end_from.Goals as goal

pub returns-in-Some-clause-exact : goal.returns-in-Some-clause-exact
returns-in-Some-clause-exact c =
    sym (found_from c.args.bytes.now c.args.from c.saturating_sub-start.result c.first_end.result _ c.saturating_sub-start.ensures
    c.requires.none c.first_end.ensures.exact c.in-Some.is)

pub returns-in-None-clause-exact : goal.returns-in-None-clause-exact
returns-in-None-clause-exact c =
    sym (found_from c.args.bytes.now c.args.from c.saturating_sub-start.result c.first_end.result _ c.saturating_sub-start.ensures
    c.requires.none c.first_end.ensures.exact c.in-None.is)
