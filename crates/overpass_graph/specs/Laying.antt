-- How links are laid while the ways are gone through.
use Rattle.std.specs.Prelude.{ℕ, zero, suc, ℤ, pos, ◌==◌, ◌<◌, ◌≡◌, List, [], length, get_or, drop, slice_get, if◌then◌else◌}
use Rattle.geo_int.specs.Place.{Place}
use Rattle.map_tables.specs.Kept.{Kept}
use Rattle.overpass_graph.specs.declared.link.Link.{Link}
use Rattle.overpass_graph.specs.Links.{both_ways, has_arrow, links_along, links_of_way}

-- the number of each node is in range
pub record AreNumbers (nodes : List (Kept Place)) (numbers : List ℕ) : Type 0 where
  pub length_is : length numbers ≡ length nodes
  pub in_range : (p : ℕ) → p < length nodes → get_or numbers p 0 < length nodes

-- the links of a segment between the nodes at two places of the text
abbrev pub links_at : (nodes : List (Kept Place)) (numbers : List ℕ) (way segment a b : ℕ) → List Link
links_at nodes numbers way segment a b =
    if a == b then []
    else if has_arrow (slice_get nodes a) (slice_get nodes b) then both_ways way segment (get_or numbers a 0)
    (get_or numbers b 0)
    else []

-- the links of the segment that ends at this place of a way; none at the first
abbrev pub links_up_to : (nodes : List (Kept Place)) (numbers : List ℕ) (way place a b : ℕ) → List Link
links_up_to nodes numbers way zero a b = []
links_up_to nodes numbers way (suc segment) a b = links_at nodes numbers way segment a b

-- the links of a way that are left where so many of its nodes were gone through
abbrev pub links_left : List (Kept Place) → ℕ → List ℤ → ℕ → List Link
links_left nodes way ids zero = links_of_way nodes way ids
links_left nodes way ids (suc i) = links_along nodes way i (get_or ids i (pos 0)) (drop (suc i) ids)
