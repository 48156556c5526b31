use Rattle.std.proofs.Common.{◌≡◌, ◌++◌, drop}
use Rattle.command_words.specs.Help.{keys_text}
use Rattle.command_words.proofs.help.append_keys.Given as goal

abbrev pub invariant-rows : goal.invariant-rows
invariant-rows l = l.text.items ++ keys_text (drop l.row-index l.rows) ≡ l.initial.text.items ++ keys_text l.rows
