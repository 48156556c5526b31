use Rattle.std.proofs.Common.{◌≡◌}
use Rattle.std.proofs.lemmas.Result.{err_from_is_err_and}
use Rattle.lookup_table.specs.Table.{table_of}
use Rattle.lookup_table.proofs.ReadLemmas.{table_of-finished, table_of-refused, answers}
use Rattle.lookup_table.proofs.table.Table.read.Goals as goal

pub returns-in_err-draft : goal.returns-in_err-draft
returns-in_err-draft c =
    let p = err_from_is_err_and c.from_residual.result c.from_residual.ensures.1 in
    record { exact = rw (p.1, p.2) (table_of-refused c.args.text.now _ c.in_err-draft.ensures.exact) }

pub returns : goal.returns
returns c =
    let same : c.finished.result ≡ table_of c.args.text.now =
    table_of-finished c.args.text.now _ c.finished.result c.in_ok-draft.ensures.exact c.finished.ensures.exact in
    record { exact = answers c.args.text.now c.finished.result same }
