use Rattle.std.proofs.Common.{◌≡◌, ◌≤◌, ◌*◌, take}
use Rattle.made_routes.specs.Lengths.{walk_length}
use Rattle.made_routes.proofs.lengths.walk_length.Given as goal

abbrev pub invariant-cells : goal.invariant-cells
invariant-cells l = record {
  some : 1 ≤ l.place;
  sum : l.sum ≡ walk_length l.grid (take l.place l.cells);
  few : l.sum ≤ l.place * 100000000;
}
