use Rattle.std.proofs.Common.{◌≡◌, ◌++◌, drop}
use Rattle.command_words.specs.Help.{details_text}
use Rattle.command_words.proofs.details.append_rows.Given as goal

abbrev pub invariant-rows : goal.invariant-rows
invariant-rows l = l.text.items ++ details_text (drop l.row-index l.rows) ≡ l.initial.text.items ++ details_text l.rows
