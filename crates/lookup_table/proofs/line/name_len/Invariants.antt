use Rattle.std.proofs.Common.{◌≡◌, ◌+◌, drop}
use Rattle.std.specs.List.{prefix_len}
use Rattle.lookup_table.specs.Line.{is_tag_byte}
use Rattle.lookup_table.proofs.line.name_len.Given as goal

abbrev pub invariant-loop-i : goal.invariant-loop-i
invariant-loop-i l = prefix_len is_tag_byte l.word ≡ l.i + prefix_len is_tag_byte (drop l.i l.word)
