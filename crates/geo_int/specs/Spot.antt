-- What place a spot stands for: spots are counted from 180 degrees west and from the south pole.
use Rattle.std.specs.Prelude.{pos, ◌-ℤ◌}
use Rattle.geo_int.specs.Place.{Place, place}
use Rattle.geo_int.specs.declared.spots.Spot.{Spot}

-- the place of a spot
abbrev pub place_of : Spot → Place
place_of spot = place (pos spot.ilon -ℤ pos 180000000) (pos spot.ilat -ℤ pos 90000000)
