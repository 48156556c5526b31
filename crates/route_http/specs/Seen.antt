-- What the code's lists stand for.
use Rattle.std.specs.Prelude.{ℕ, List, map, option_map}
use Rattle.geo_int.specs.declared.spots.Spot.{Spot}
use Rattle.geo_int.specs.Place.{Place}
use Rattle.geo_int.specs.Spot.{place_of}
use Rattle.nogo_areas.specs.declared.circle.Circle.{Circle}
use Rattle.route_http.specs.declared.draft.Draft.{Draft}
use Rattle.route_http.specs.declared.asked.Request.{Request}
use Rattle.route_http.specs.Asked.{Asked}
use Rattle.route_http.specs.Parts.{Parts}

-- the places of spots
abbrev pub places : List Spot → List Place
places spots = map place_of spots

-- the centre and the radius of a circle
abbrev pub circle_seen : Circle → Place × ℕ
circle_seen circle = (place_of circle.centre, circle.radius)

-- the centres and the radii of circles
abbrev pub circles_seen : List Circle → List (Place × ℕ)
circles_seen circles = map circle_seen circles

-- what a request asks for
abbrev pub asked : Request → Asked
asked r = record {
  waypoints = places r.waypoints;
  circles = circles_seen r.circles;
  profile = r.profile;
  alternative = r.alternative;
  form = r.form;
  labels = r.labels;
  overrides = r.overrides;
  runs = r.runs;
  cost = r.cost;
  sources = r.sources;
  destinations = r.destinations;
}

-- what a draft holds of the pairs so far
abbrev pub parts_seen : Draft → Parts
parts_seen d = record {
  waypoints = option_map places d.waypoints;
  circles = option_map circles_seen d.circles;
  profile = d.profile;
  alternative = d.alternative;
  form = d.form;
  labels = d.labels;
  overrides = d.overrides;
  runs = d.runs;
  costed = d.costed;
  cost = d.cost;
  tabled = d.tabled;
  sources = d.sources;
  destinations = d.destinations;
}
