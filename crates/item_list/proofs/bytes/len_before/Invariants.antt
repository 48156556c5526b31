use Rattle.std.proofs.Common.{◌≡◌, ◌+◌, drop}
use Rattle.std.specs.List.{prefix_len}
use Rattle.item_list.specs.Bytes.{is_other}
use Rattle.item_list.proofs.bytes.len_before.Given as goal

abbrev pub invariant-loop-i : goal.invariant-loop-i
invariant-loop-i l = prefix_len (is_other l.byte) l.text ≡ l.i + prefix_len (is_other l.byte) (drop l.i l.text)
