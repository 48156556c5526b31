-- The links of ways (this project's own rule for the order of links, and for which segments make none).
use Rattle.std.specs.Prelude.{ℕ, suc, ◌+◌, ◌*◌, ℤ, Bool, true, false, cond, List, [], ◌∷◌, ◌++◌, slice_get, Option, Some, None, option_map, is_some, if◌then◌else◌}
use Rattle.std.specs.Ordering.{int_eq}
use Rattle.geo_int.specs.Place.{Place}
use Rattle.geo_int.specs.Arrow.{arrow_between}
use Rattle.map_tables.specs.Kept.{Kept, place_of_id}
use Rattle.map_tables.specs.declared.error.MapError.{MapError}
use Rattle.map_tables.specs.declared.error.MapError.TheVariants.{MissingNode}
use Rattle.overpass_graph.specs.declared.link.Link.{Link}

-- the two links of a segment of a way between two nodes, the forward one first
abbrev pub both_ways : ℕ → ℕ → ℕ → ℕ → List Link
both_ways way segment a b =
    record { from = a; to = b; way = way; segment = segment; back = false } ∷
    record { from = b; to = a; way = way; segment = segment; back = true } ∷ []

-- there is an arrow between two nodes: they lie at most a hundred kilometres apart
abbrev pub has_arrow : Option (Kept Place) → Option (Kept Place) → Bool
has_arrow (Some a) (Some b) = is_some (arrow_between a.content b.content)
has_arrow (Some a) None = false
has_arrow None b = false

-- the links of a segment of a way between the nodes at two places
abbrev pub links_between : (nodes : List (Kept Place)) (way segment : ℕ) (a b : Option ℕ) → List Link
links_between nodes way segment (Some a) (Some b) =
    if has_arrow (slice_get nodes a) (slice_get nodes b) then both_ways way segment a b else []
links_between nodes way segment (Some a) None = []
links_between nodes way segment None b = []

-- the links of a segment of a way between two ids: none where they are one, or lie too far apart
unfoldable pub links_of_segment : (nodes : List (Kept Place)) (way segment : ℕ) (a b : ℤ) → List Link
links_of_segment nodes way segment a b =
    if int_eq a b then [] else links_between nodes way segment (place_of_id a nodes) (place_of_id b nodes)

-- the links of a way from this segment on, which begins at this id, through these ids
abbrev pub links_along : (nodes : List (Kept Place)) (way segment : ℕ) (a : ℤ) (ids : List ℤ) → List Link
links_along nodes way segment a [] = []
links_along nodes way segment a (b ∷ ids) =
    links_of_segment nodes way segment a b ++ links_along nodes way (suc segment) b ids

-- the links of a way through these ids, in the order of its segments
abbrev pub links_of_way : List (Kept Place) → ℕ → List ℤ → List Link
links_of_way nodes way [] = []
links_of_way nodes way (a ∷ ids) = links_along nodes way 0 a ids

-- the links of these ways, of which the first has this number
abbrev pub links_from : List (Kept Place) → ℕ → List (Kept (List ℤ)) → List Link
links_from nodes way [] = []
links_from nodes way (w ∷ ws) = links_of_way nodes way w.content ++ links_from nodes (suc way) ws

-- ---- The order of links

-- what a way, a segment and a direction weigh: the way counts most, then the segment
abbrev pub weight_of : (way segment : ℕ) → Bool → ℕ
weight_of way segment back = way * 8589934592 + segment * 2 + cond back 1 0

-- what a link weighs
abbrev pub link_weight : Link → ℕ
link_weight link = weight_of link.way link.segment link.back

-- ---- Missing nodes

-- the first of these ids that no node has
abbrev pub missing_in : List (Kept Place) → List ℤ → Option ℤ
missing_in nodes [] = None
missing_in nodes (id ∷ ids) = if is_some (place_of_id id nodes) then missing_in nodes ids else Some id

-- the missing node of a way, or what is missing on later ways
abbrev pub missing_or : ℤ → Option ℤ → Option (ℤ × ℤ) → Option (ℤ × ℤ)
missing_or way (Some id) later = Some (way, id)
missing_or way None later = later

-- the first way that goes through a node that isn't there, and the first such node of it
abbrev pub first_missing : List (Kept Place) → List (Kept (List ℤ)) → Option (ℤ × ℤ)
first_missing nodes [] = None
first_missing nodes (w ∷ ws) = missing_or w.id (missing_in nodes w.content) (first_missing nodes ws)

-- the fault of a missing node, where there is one
abbrev pub missing_fault : Option (ℤ × ℤ) → Option MapError
missing_fault missing = option_map (λ (m : ℤ × ℤ). MissingNode m.0 m.1) missing
