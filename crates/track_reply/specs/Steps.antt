-- The steps of walks: of each link its way, its segment and its direction (this project's own rule).
use Rattle.std.specs.Prelude.{ℕ, Bool, cond, List, ◌++◌, codes, decimal}
use Rattle.std.specs.Fmt.{signed_decimal}
use Rattle.std.specs.List.{flat_map}
use Rattle.overpass_graph.specs.Maps.{MapValue, link_of, way_at}
use Rattle.track_reply.specs.Joined.{tab}

-- the id of a link's way
abbrev pub way_id_of : MapValue → ℕ → List ℕ
way_id_of map link = signed_decimal (way_at map.ways (link_of map link).way).id

-- the letter of a direction
abbrev pub direction_letter : Bool → List ℕ
direction_letter back = cond back (codes "b") (codes "f")

-- a link as `way/segment/f`, or `way/segment/b` where it goes backward
unfoldable pub step_field : MapValue → ℕ → List ℕ
step_field map link =
    way_id_of map link ++ (codes "/" ++
    (decimal (link_of map link).segment ++ (codes "/" ++ direction_letter (link_of map link).back)))

-- a walk as a field for each of its links, each behind a tabulator
unfoldable pub walk_fields : MapValue → List ℕ → List ℕ
walk_fields map walk = flat_map (λ link. tab ++ step_field map link) walk
