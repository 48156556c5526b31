use Rattle.std.proofs.Common.{◌≡◌, ◌++◌, drop}
use Rattle.command_words.specs.Shown.{bytes_text}
use Rattle.command_words.proofs.shown.append_each.Given as goal

abbrev pub invariant-bytes : goal.invariant-bytes
invariant-bytes l = l.text.items ++ bytes_text (drop l.byte-index l.bytes) ≡ l.initial.text.items ++ bytes_text l.bytes
