use Rattle.std.proofs.Common.{◌≡◌, ◌+◌, drop}
use Rattle.std.specs.List.{position_or_len}
use Rattle.route_http.specs.Heads.{is_mark}
use Rattle.route_http.proofs.target.path_len.Given as goal

abbrev pub invariant-loop-i : goal.invariant-loop-i
invariant-loop-i l = position_or_len is_mark l.target ≡ l.i + position_or_len is_mark (drop l.i l.target)
