use Rattle.std.proofs.Common.{◌≡◌, ◌+◌, drop}
use Rattle.std.specs.List.{prefix_len}
use Rattle.httparse.specs.Pieces.{is_newline}
use Rattle.route_http.proofs.target.breaks_len.Given as goal

abbrev pub invariant-loop-i : goal.invariant-loop-i
invariant-loop-i l = prefix_len is_newline l.head ≡ l.i + prefix_len is_newline (drop l.i l.head)
