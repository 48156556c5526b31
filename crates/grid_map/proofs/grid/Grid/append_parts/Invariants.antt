use Rattle.std.proofs.Common.{◌≡◌, ◌+◌, ◌-◌, ◌≤◌, ◌<◌, ◌⊎◌, ◌++◌, length}
use Rattle.std.specs.Prelude.{vec_capacity, vec_len}
use Rattle.grid_map.specs.MapText.{parts_of, text_from}
use Rattle.grid_map.proofs.grid.Grid.append_parts.Given as goal

abbrev pub invariant-parts : goal.invariant-parts
invariant-parts l = record {
  within : l.next ≤ length (parts_of l.self);
  room : l.limit + 200 ≤ vec_capacity l.piece;
  kept : vec_capacity l.initial.piece ≤ vec_capacity l.piece;
  some : (l.next ≡ l.from) × (vec_len l.piece ≤ l.limit) ⊎ (l.from < l.next);
  value : l.piece.items ++ text_from l.self l.next ≡ l.initial.piece.items ++ text_from l.self l.from;
}

abbrev pub decreases-parts : goal.decreases-parts
decreases-parts l = l.parts - l.next
