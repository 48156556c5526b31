-- On which side of a circle a way lies beyond its reach (this project's own rule).
use Rattle.std.specs.Prelude.{◌≡◌, ℕ, ◌+◌, ◌-◌, ◌/◌, ◌≤◌, false}
use Rattle.geo_int.specs.Cosine.{radians, squared}
use Rattle.geo_int.specs.Spot.{place_of}
use Rattle.geo_int.specs.declared.spots.Spot.{Spot}
use Rattle.nogo_areas.specs.Cuts.{touches_way}
use Rattle.nogo_areas.specs.declared.circle.Circle.{Circle}
use Rattle.nogo_areas.specs.declared.sides.Side.{Side}
use Rattle.nogo_areas.specs.declared.sides.Side.TheVariants.{South, North, West, East}

-- how far a spot lies from one edge of the globe, in microdegrees
abbrev pub along_of : Side → Spot → ℕ
along_of South spot = spot.ilat
along_of North spot = 180000000 - spot.ilat
along_of West spot = spot.ilon
along_of East spot = 360000000 - spot.ilon

-- no way between two spots that lie at most so far from the edge is touched by the circle
pub record IsBeyond (side : Side) (circle : Circle) (along : ℕ) : Type 0 where
  pub untouched : (a b : Spot) → along_of side a ≤ along → along_of side b ≤ along →
      touches_way (place_of a) (place_of b) circle ≡ false

-- a whole number of billionths below the cosine of each latitude at most 1,350,000 microdegrees farther from
-- the equator
unfoldable pub narrow_cosine : ℕ → ℕ
narrow_cosine lat = 1000000000 - squared (radians (lat + 1350000)) / 2
