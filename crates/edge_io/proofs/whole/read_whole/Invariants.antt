use Rattle.std.proofs.Common.{length, ◌-◌, ◌≡◌, ◌≤◌, true}
use Rattle.edge_io.proofs.WholeLemmas.{HasRead}
use Rattle.edge_io.proofs.whole.read_whole.Given as goal

abbrev pub invariant-reading : goal.invariant-reading
invariant-reading g l = record {
  fits : length l.bytes.items ≤ l.limit;
  is_open : (g.F.Files.seen l.files).is_open ≡ true;
  read : HasRead (g.F.Files.seen l.initial.files) (g.F.Files.seen l.files) l.bytes.items;
}

abbrev pub decreases-reading : goal.decreases-reading
decreases-reading g l = l.limit - length l.bytes.items
