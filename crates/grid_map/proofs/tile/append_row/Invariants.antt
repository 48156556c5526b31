use Rattle.std.proofs.Common.{◌≡◌, ◌++◌, map}
use Rattle.std.specs.List.{range_with_len, concat}
use Rattle.grid_map.specs.Tile.{sample_bytes, sample_of}
use Rattle.grid_map.proofs.tile.append_row.Given as goal

abbrev pub invariant-columns : goal.invariant-columns
invariant-columns l =
    l.bytes.items ≡ l.initial.bytes.items ++
    concat (map (λ column. sample_bytes (sample_of l.seed l.row column)) (range_with_len 0 l.column))
