use Rattle.route_http.proofs.PartLemmas.{parts_of-split}
use Rattle.route_http.proofs.parts.at_mark.Goals as goal

pub returns-clause-value : goal.returns-clause-value
returns-clause-value c =
    parts_of-split c.args.mark c.args.text.now c.len_before.result c.split_at.result.0.now c.split_at.result.1.now c.len_before.ensures.value
    c.split_at.ensures.front c.split_at.ensures.back
