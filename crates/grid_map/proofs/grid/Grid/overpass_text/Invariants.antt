use Rattle.std.proofs.Common.{◌≡◌, ◌-◌, ◌≤◌, ◌++◌, length}
use Rattle.std.specs.Prelude.{vec_capacity}
use Rattle.grid_map.specs.MapText.{overpass_text, parts_of, text_from}
use Rattle.grid_map.proofs.grid.Grid.overpass_text.Given as goal

abbrev pub invariant-parts : goal.invariant-parts
invariant-parts l = record {
  within : l.next ≤ length (parts_of l.self);
  room : 65536 ≤ vec_capacity l.piece;
  whole : l.text.items ++ text_from l.self l.next ≡ overpass_text l.self;
}

abbrev pub decreases-parts : goal.decreases-parts
decreases-parts l = length (parts_of l.self) - l.next
