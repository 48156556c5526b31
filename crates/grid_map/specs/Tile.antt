-- The tile of heights of a seed, after SRTM HGT (the heights are this project's own rule).
use Rattle.std.specs.Prelude.{ℕ, ◌+◌, ◌-◌, ◌*◌, ◌/◌, ◌%◌, List, [], ◌∷◌, map}
use Rattle.std.specs.List.{range_with_len, concat}
use Rattle.grid_map.specs.Plan.{draw_of}

-- the height in whole metres in a row, counted from the south, and a column; three by three of them are the
-- same
unfoldable pub sample_of : ℕ → ℕ → ℕ → ℕ
sample_of seed row column = draw_of seed (row / 3 * 401 + column / 3) / 40

-- a height below 2^15 as a signed number of 16 bits, the high byte first
abbrev pub sample_bytes : ℕ → List ℕ
sample_bytes height = height / 256 ∷ height % 256 ∷ []

-- a row, from west to east
unfoldable pub row_bytes : ℕ → ℕ → List ℕ
row_bytes seed row = concat (map (λ column. sample_bytes (sample_of seed row column)) (range_with_len 0 1201))

-- the tile: its 1201 rows from north to south
unfoldable pub hgt_bytes : ℕ → List ℕ
hgt_bytes seed = concat (map (λ place. row_bytes seed (1200 - place)) (range_with_len 0 1201))
