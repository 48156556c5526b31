use Rattle.std.proofs.Common.{decimal}
use Rattle.item_list.proofs.CallerLemmas.{EndsWithFront-call}
use Rattle.item_list.proofs.append.append_named.Goals as goal

pub returns-clause-kept : goal.returns-clause-kept
returns-clause-kept c =
    EndsWithFront-call c.append_number.result _ c.args.word.now (decimal c.args.number) _ _ c.in_ok-append_bytes.ensures.exact
    c.append_number.ensures.kept
