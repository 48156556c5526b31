use Rattle.std.proofs.Common.{◌≡◌, ◌++◌, drop}
use Rattle.command_words.specs.Command.{files_in}
use Rattle.command_words.proofs.command.files_of.Given as goal

abbrev pub invariant-entries : goal.invariant-entries
invariant-entries l = l.files ++ files_in l.key (drop l.entry-index l.entries) ≡ files_in l.key l.entries
