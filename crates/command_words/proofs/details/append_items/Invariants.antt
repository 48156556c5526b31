use Rattle.std.proofs.Common.{◌≡◌, ◌++◌, drop}
use Rattle.command_words.specs.Help.{items_text}
use Rattle.command_words.proofs.details.append_items.Given as goal

abbrev pub invariant-commands : goal.invariant-commands
invariant-commands l = l.text.items ++ items_text (drop l.command-index l.commands) ≡ l.initial.text.items ++ items_text l.commands
