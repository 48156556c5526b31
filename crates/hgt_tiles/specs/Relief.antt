-- The heights of one square degree: a grid of samples in metres (the HGT layout).
use Rattle.std.specs.Prelude.{◌≡◌, ℕ, ◌+◌, ◌-◌, ◌*◌, ◌<◌, ◌≤◌, ℤ, pos, negsuc, ◌≤ℤ◌, List, length, slice_index_or}
use Rattle.hgt_tiles.specs.declared.names.Corner.{Corner}

-- a corner, how many steps a degree has, and the samples: rows from north to south, each from west to east
pub record Relief : Type 0 where
  pub corner : Corner
  pub steps : ℕ
  pub samples : List ℤ

-- a sample that says that no height is known
abbrev pub void : ℤ
void = negsuc 32767

-- the sample in a row counted from the south and a column counted from the west
unfoldable pub sample : Relief → ℕ → ℕ → ℤ
sample relief row column =
    slice_index_or relief.samples ((relief.steps - row) * (relief.steps + 1) + column) void

-- the corner of a square degree on the globe
pub record IsCorner (corner : Corner) : Type 0 where
  pub west : negsuc 179 ≤ℤ corner.lon
  pub east : corner.lon ≤ℤ pos 179
  pub south : negsuc 89 ≤ℤ corner.lat
  pub north : corner.lat ≤ℤ pos 89

-- a whole grid of at most 3,600 steps, with a sample for each row and column
pub record IsRelief (relief : Relief) : Type 0 where
  pub corner : IsCorner relief.corner
  pub some : 0 < relief.steps
  pub few : relief.steps ≤ 3600
  pub whole : length relief.samples ≡ (relief.steps + 1) * (relief.steps + 1)

-- the relief of these
abbrev pub relief : Corner → ℕ → List ℤ → Relief
relief corner steps samples = record { corner = corner; steps = steps; samples = samples }
