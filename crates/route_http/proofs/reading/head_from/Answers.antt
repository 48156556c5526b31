use Rattle.std.proofs.Common.{min}
use Rattle.route_http.proofs.AnswerLemmas.{cut_none, head_is, head_within}
use Rattle.route_http.proofs.reading.head_from.Goals as goal

pub head_end_from-requires-clause-none : goal.head_end_from-requires-clause-none
head_end_from-requires-clause-none c =
    cut_none c.args.bytes.now c.args.from c.min-2.result c.min.result c.min-2.ensures c.min.ensures c.requires.fits c.requires.none

pub returns-in-Some-clause-exact : goal.returns-in-Some-clause-exact
returns-in-Some-clause-exact c =
    head_is c.args.bytes.now c.min.result c.head_end_from.result _ c.judged.result c.min.ensures c.head_end_from.ensures.exact c.in-Some.is
    c.judged.ensures.exact

pub returns-in-Some-clause-within : goal.returns-in-Some-clause-within
returns-in-Some-clause-within c =
    head_within c.args.bytes.now c.judged.result
    (head_is c.args.bytes.now c.min.result c.head_end_from.result _ c.judged.result c.min.ensures c.head_end_from.ensures.exact c.in-Some.is
    c.judged.ensures.exact)

pub returns-in-None-clause-exact : goal.returns-in-None-clause-exact
returns-in-None-clause-exact c =
    head_is c.args.bytes.now c.min.result c.head_end_from.result _ c.unended.result c.min.ensures c.head_end_from.ensures.exact c.in-None.is
    c.unended.ensures.exact
