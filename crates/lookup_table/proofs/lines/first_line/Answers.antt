use Rattle.lookup_table.proofs.ReadLemmas.{lines_of-split}
use Rattle.lookup_table.proofs.lines.first_line.Goals as goal

pub returns-clause-value : goal.returns-clause-value
returns-clause-value c =
    lines_of-split c.args.text.now c.len_before.result c.split_at.result.0.now c.split_at.result.1.now c.len_before.ensures.value
    c.split_at.ensures.front c.split_at.ensures.back
