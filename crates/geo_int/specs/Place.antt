-- Places by longitude and latitude, in signed microdegrees (this project's own rule).
use Rattle.std.specs.Prelude.{ℤ, ◌≤◌, unsigned_abs}

-- a place: microdegrees east of Greenwich and north of the equator
pub record Place : Type 0 where
  pub lon : ℤ
  pub lat : ℤ

-- the place at this longitude and latitude
abbrev pub place : ℤ → ℤ → Place
place lon lat = record { lon = lon; lat = lat }

-- the longitude is within 180 degrees and the latitude within 90
pub record IsOnGlobe (at : Place) : Type 0 where
  pub longitude : unsigned_abs at.lon ≤ 180000000
  pub latitude : unsigned_abs at.lat ≤ 90000000
