-- The height at a place between four samples, in micrometres (this project's own rule).
use Rattle.std.specs.Prelude.{◌≡◌, ℕ, ◌+◌, ◌-◌, ◌*◌, ◌/◌, ◌%◌, ℤ, pos, ◌+ℤ◌, ◌*ℤ◌, Bool, cond, ◌||◌, Option, Some, None}
use Rattle.std.specs.Int.{int_div_euclid}
use Rattle.std.specs.Ordering.{int_eq}
use Rattle.hgt_tiles.specs.Relief.{Relief, sample, void}
use Rattle.hgt_tiles.specs.declared.heights.Cell.{Cell}

-- the row or column at or before an offset in microdegrees
unfoldable pub step_at : Relief → ℕ → ℕ
step_at relief offset = offset * relief.steps / 1000000

-- how far the offset is beyond it, in millionths of a step
unfoldable pub share_at : Relief → ℕ → ℕ
share_at relief offset = offset * relief.steps % 1000000

-- two numbers weighed by a share in millionths: a million times the number between them
unfoldable pub mix : ℕ → ℤ → ℤ → ℤ
mix share first second = pos (1000000 - share) *ℤ first +ℤ pos share *ℤ second

-- the four samples around two offsets to the east and to the north of the corner, and the shares of the way
unfoldable pub around : Relief → ℕ → ℕ → Cell
around relief a b = record {
  south_west = sample relief (step_at relief b) (step_at relief a);
  south_east = sample relief (step_at relief b) (step_at relief a + 1);
  north_west = sample relief (step_at relief b + 1) (step_at relief a);
  north_east = sample relief (step_at relief b + 1) (step_at relief a + 1);
  east = share_at relief a;
  north = share_at relief b;
}

-- one of the four is void
abbrev pub has_void : Cell → Bool
has_void cell =
    int_eq cell.south_west void || int_eq cell.south_east void
    || int_eq cell.north_west void || int_eq cell.north_east void

-- the height between the four, rounded down
unfoldable pub between : Cell → ℤ
between cell =
    int_div_euclid
    (mix cell.north
    (mix cell.east cell.south_west cell.south_east)
    (mix cell.east cell.north_west cell.north_east))
    (pos 1000000)

-- the height, not known where one of the four is void
abbrev pub height_around : Cell → Option ℤ
height_around cell = cond (has_void cell) None (Some (between cell))

-- the height at offsets to the east and to the north of the corner, in microdegrees
abbrev pub height_on : Relief → ℕ → ℕ → Option ℤ
height_on relief a b = height_around (around relief a b)

-- a height is that of the four samples where they agree, and that of a sample at its own place
pub record AgreesWithSamples (cell : Cell) (height : ℤ) : Type 0 where
  pub level : (metres : ℤ) → cell.south_west ≡ metres → cell.south_east ≡ metres → cell.north_west ≡ metres →
      cell.north_east ≡ metres → height ≡ pos 1000000 *ℤ metres
  pub at_sample : cell.east ≡ 0 → cell.north ≡ 0 → height ≡ pos 1000000 *ℤ cell.south_west
