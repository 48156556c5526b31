use Rattle.std.proofs.Common.{◌≡◌, ◌++◌, drop}
use Rattle.command_words.specs.Help.{commands_text}
use Rattle.command_words.proofs.help.append_commands.Given as goal

abbrev pub invariant-commands : goal.invariant-commands
invariant-commands l = l.text.items ++ commands_text (drop l.command-index l.commands) ≡ l.initial.text.items ++ commands_text l.commands
