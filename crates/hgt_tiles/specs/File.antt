-- What the bytes of a file of heights hold (the HGT layout).
use Rattle.std.specs.Prelude.{ℕ, ◌+◌, ◌*◌, ℤ, pos, ◌-ℤ◌, List, [], ◌∷◌, length, cond, ◌==◌, nat_lt, Option, Some, None, Result, Ok, Err}
use Rattle.hgt_tiles.specs.Relief.{Relief}
use Rattle.hgt_tiles.specs.declared.names.Corner.{Corner}
use Rattle.hgt_tiles.specs.declared.tile_file.TileError.{TileError}
use Rattle.hgt_tiles.specs.declared.tile_file.TileError.TheVariants.{Name, Size}
use Rattle.hgt_tiles.specs.Name.{corner_of_name}

-- a signed number of 16 bits, by its high and its low byte
unfoldable pub sample_of : ℕ → ℕ → ℤ
sample_of high low = cond (nat_lt high 128) (pos (high * 256 + low)) (pos (high * 256 + low) -ℤ pos 65536)

-- the samples of a file, two bytes each
abbrev pub samples_of : List ℕ → List ℤ
samples_of [] = []
samples_of (high ∷ []) = []
samples_of (high ∷ low ∷ rest) = sample_of high low ∷ samples_of rest

-- how many steps a degree has in a file of this length
abbrev pub steps_of : ℕ → Option ℕ
steps_of bytes = cond (bytes == 2884802) (Some 1200) (cond (bytes == 25934402) (Some 3600) None)

-- the relief of a corner and a number of steps, or the refusal of the one that isn't there: the corner comes
-- first
abbrev pub relief_by : Option Corner → Option ℕ → List ℕ → Result Relief TileError
relief_by None steps bytes = Err Name
relief_by (Some corner) None bytes = Err Size
relief_by (Some corner) (Some steps) bytes =
    Ok (record { corner = corner; steps = steps; samples = samples_of bytes })

-- the relief that a file of this name and these bytes holds, or why it holds none
abbrev pub relief_of_file : List ℕ → List ℕ → Result Relief TileError
relief_of_file name bytes = relief_by (corner_of_name name) (steps_of (length bytes)) bytes
