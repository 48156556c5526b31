use Rattle.std.proofs.Common.{◌≡◌, ◌-◌, map}
use Rattle.std.specs.List.{range_with_len, concat}
use Rattle.grid_map.specs.Tile.{row_bytes}
use Rattle.grid_map.proofs.tile.hgt_bytes.Given as goal

abbrev pub invariant-rows : goal.invariant-rows
invariant-rows l = l.bytes.items ≡ concat (map (λ place. row_bytes l.seed (1200 - place)) (range_with_len 0 l.place))
