use Rattle.std.proofs.lemmas.Result.{IfOk-weaker}
use Rattle.space_search.proofs.ReadLemmas.{run-read}
use Rattle.space_search.proofs.search.Search.choices.Goals as goal

pub choices_of-requires : goal.choices_of-requires
choices_of-requires g c =
    let r = c.requires.readable in
    record { reads = (r.rules, r.of.stands.reads, c.label_of.ensures.follows r.rules r.of) }

pub returns-clause-run : goal.returns-clause-run
returns-clause-run g c =
    IfOk-weaker c.choices_of.result _ _
    (λ choices exact rules one of shown.
    run-read rules c.args.self.now c.args.label c.label_of.result.now of (c.label_of.ensures.follows rules of)
    c.label_of.ensures.value one choices shown exact)
    c.choices_of.ensures.exact
