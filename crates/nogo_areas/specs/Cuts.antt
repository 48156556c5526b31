-- Which links no-go circles cut (this project's own rule).
use Rattle.std.specs.Prelude.{ℕ, Bool, false, ◌||◌, List, [], ◌∷◌, map}
use Rattle.geo_int.specs.Place.{Place}
use Rattle.geo_int.specs.Spot.{place_of}
use Rattle.geo_int.specs.Circle.{circle_touches}
use Rattle.overpass_graph.specs.declared.link.Link.{Link}
use Rattle.overpass_graph.specs.Maps.{MapValue, node_at, link_of}
use Rattle.nogo_areas.specs.declared.circle.Circle.{Circle}

-- a circle touches the straight way between two places
abbrev pub touches_way : Place → Place → Circle → Bool
touches_way a b circle = circle_touches a b (place_of circle.centre) circle.radius

-- some of these circles touches the straight way between two places
abbrev pub any_touches : Place → Place → List Circle → Bool
any_touches a b [] = false
any_touches a b (circle ∷ circles) = touches_way a b circle || any_touches a b circles

-- some of these circles touches the straight way between the ends of a link
unfoldable pub cuts_link : MapValue → List Circle → Link → Bool
cuts_link roads circles link =
    any_touches (node_at roads.nodes link.from).content (node_at roads.nodes link.to).content circles

-- a link of the map, by its number, is cut
abbrev pub is_cut : MapValue → List Circle → ℕ → Bool
is_cut roads circles link = cuts_link roads circles (link_of roads link)

-- for each link of the map, in their order, whether it is cut
unfoldable pub cut_of : MapValue → List Circle → List Bool
cut_of roads circles = map (cuts_link roads circles) roads.links
