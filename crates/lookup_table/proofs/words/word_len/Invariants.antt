use Rattle.std.proofs.Common.{◌≡◌, ◌+◌, drop}
use Rattle.std.specs.List.{prefix_len}
use Rattle.lookup_table.specs.Words.{is_ink}
use Rattle.lookup_table.proofs.words.word_len.Given as goal

abbrev pub invariant-loop-i : goal.invariant-loop-i
invariant-loop-i l = prefix_len is_ink l.text ≡ l.i + prefix_len is_ink (drop l.i l.text)
