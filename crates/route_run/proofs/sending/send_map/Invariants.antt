use Rattle.std.proofs.Common.{◌≡◌, ◌≤◌, ◌-◌, ◌++◌, ℕ, List, length}
use Rattle.std.specs.Prelude.{vec_capacity}
use Rattle.edge_io.specs.Sink.{Grows}
use Rattle.grid_map.specs.MapText.{overpass_text, parts_of, text_from}
use Rattle.route_run.proofs.sending.send_map.Given as goal

abbrev pub invariant-pieces : goal.invariant-pieces
invariant-pieces g l = record {
  within : l.next ≤ length (parts_of l.grid);
  room : 65536 ≤ vec_capacity l.piece;
  sent : List ℕ;
  grows : Grows (g.O.Sink.seen l.initial.out) (g.O.Sink.seen l.out) sent;
  whole : sent ++ text_from l.grid l.next ≡ overpass_text l.grid;
}

abbrev pub decreases-pieces : goal.decreases-pieces
decreases-pieces g l = length (parts_of l.grid) - l.next
