use Rattle.std.proofs.Common.{◌≡◌, is_some, drop}
use Rattle.lookup_table.specs.First.{rows_of}
use Rattle.profile_text.specs.Meaning.{row_at, value_numbers}
use Rattle.context_check.proofs.look.are_listed.Given as goal

abbrev pub invariant-values : goal.invariant-values
invariant-values l =
    let row = row_at (rows_of l.table l.part) l.place in
    is_some (value_numbers row l.values) ≡ is_some (value_numbers row (drop l.value-index l.values))
