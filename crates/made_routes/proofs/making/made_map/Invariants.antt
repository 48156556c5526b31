use Rattle.std.proofs.Common.{◌≡◌, ◌≤◌, ◌-◌, ◌++◌, ℕ, List, length}
use Rattle.std.specs.Prelude.{vec_capacity}
use Rattle.grid_map.specs.MapText.{overpass_text, parts_of, text_from}
use Rattle.overpass_graph.specs.Builder.{StandsForText, fed}
use Rattle.made_routes.proofs.making.made_map.Given as goal

abbrev pub invariant-pieces : goal.invariant-pieces
invariant-pieces l = record {
  within : l.next ≤ length (parts_of l.grid);
  room : 65536 ≤ vec_capacity l.piece;
  bytes : List ℕ;
  stands : StandsForText l.builder bytes;
  counted : fed l.builder ≡ length bytes;
  whole : bytes ++ text_from l.grid l.next ≡ overpass_text l.grid;
}

abbrev pub decreases-pieces : goal.decreases-pieces
decreases-pieces l = length (parts_of l.grid) - l.next
