-- Heights by place, of tiles that were added one by one: the first of each corner counts.
use Rattle.std.specs.Prelude.{◌≡◌, ◌≢◌, ℕ, ℤ, pos, Option, Some, None, unsigned_abs}
use Rattle.std.specs.Int.{int_div_euclid, int_rem_euclid}
use Rattle.std.specs.Ordering.{int_cmp, ordering_then}
use Rattle.std.specs.declared.cmp.Ordering.{Ordering}
use Rattle.std.specs.Option.{unwrap_or}
use Rattle.std.specs.BTreeMap.{get}
use Rattle.geo_int.specs.Place.{Place}
use Rattle.hgt_tiles.specs.Relief.{Relief}
use Rattle.hgt_tiles.specs.declared.names.Corner.{Corner}
use Rattle.hgt_tiles.specs.Height.{height_on, around, AgreesWithSamples}
use Rattle.hgt_tiles.specs.declared.tile_set.Tiles.{Tiles}

-- how two corners compare: by longitude, then by latitude
abbrev pub corner_cmp : Corner → Corner → Ordering
corner_cmp a b = ordering_then (int_cmp a.lon b.lon) (int_cmp a.lat b.lat)

-- the relief of a corner
unfoldable pub relief_at : Tiles → Corner → Option Relief
relief_at tiles corner = get corner_cmp tiles.by_corner corner

-- the corner of the square degree that a place lies in: its degrees, rounded down
abbrev pub corner_of_place : Place → Corner
corner_of_place at = record {
  lon = int_div_euclid at.lon (pos 1000000);
  lat = int_div_euclid at.lat (pos 1000000);
}

-- how far beyond a whole degree, in microdegrees
abbrev pub beyond : ℤ → ℕ
beyond microdegrees = unsigned_abs (int_rem_euclid microdegrees (pos 1000000))

-- the height at a place on a relief, if there is one
abbrev pub height_if : Option Relief → Place → Option ℤ
height_if (Some relief) at = height_on relief (beyond at.lon) (beyond at.lat)
height_if None at = None

-- the height at a place, not known where no tile is there
unfoldable pub height_of : Tiles → Place → Option ℤ
height_of tiles at = height_if (relief_at tiles (corner_of_place at)) at

-- a height agrees with the four samples around a place, on the relief that is there
abbrev pub IsInterpolated : Tiles → Place → ℤ → Type 0
IsInterpolated tiles at height =
    (relief : Relief) → relief_at tiles (corner_of_place at) ≡ Some relief →
    AgreesWithSamples (around relief (beyond at.lon) (beyond at.lat)) height

-- a tile was added: its corner keeps what it had, or has the tile, and every other corner what it had
pub record AddsTile (old new : Tiles) (tile : Relief) : Type 0 where
  pub this : relief_at new tile.corner ≡ Some (unwrap_or (relief_at old tile.corner) tile)
  pub others : (corner : Corner) → corner ≢ tile.corner → relief_at new corner ≡ relief_at old corner
