-- The element that a value stands for, or what is wrong with it (the JSON profile of Overpass that this
-- project reads).
use Rattle.std.specs.Prelude.{ℕ, ℤ, pos, List, Option, Some, None, Result, Ok, Err, if◌then◌else◌}
use Rattle.std.specs.Str.{bytes_eq}
use lib.Chars.{codes}
use Rattle.fixed_num.specs.Coordinate.{coordinate_of}
use Rattle.fixed_num.specs.declared.coordinate.CoordError.{CoordError}
use Rattle.geo_int.specs.Place.{Place, place}
use Rattle.json_text.specs.Marks.{Step}
use Rattle.map_tables.specs.Kept.{Kept}
use Rattle.map_tables.specs.declared.member.Member.{Member}
use Rattle.map_tables.specs.declared.error.MapError.{MapError}
use Rattle.map_tables.specs.declared.error.MapError.TheVariants.{Shape, BadCoordinate}
use Rattle.map_elements.specs.Entries.{Entry, members_of, member}
use Rattle.map_elements.specs.Fields.{with_some, text_of, number_of, whole_number_of, whole_list_of, tags_of, member_list_of}

-- an element that is read, or one of another type, which is read past
pub data Element : Type 0 where
  Node : Kept Place → Element
  Way : Kept (List ℤ) → Element
  Relation : Kept (List Member) → Element
  Other : Element

-- goes on with what is there; otherwise the element at this place has the wrong shape
abbrev pub need : {A B : Type 0} → ℕ → Option A → (A → Result B MapError) → Result B MapError
need at None go = Err (Shape at)
need at (Some a) go = go a

-- a node of this id and these tags at the coordinates of two texts, the latitude first
abbrev pub node_at : ℤ → List (List ℕ × List ℕ) → List ℕ → List ℕ → Result Element MapError
node_at id tags lat lon = by_both (coordinate_of (pos 90000000) lat) (coordinate_of (pos 180000000) lon)
  where
    by_both : Result ℤ CoordError → Result ℤ CoordError → Result Element MapError
    by_both (Ok north) (Ok east) = Ok (Node (record { id = id; content = place east north; tags = tags }))
    by_both (Ok north) (Err e) = Err (BadCoordinate id)
    by_both (Err e) east = Err (BadCoordinate id)

-- the node of an element's members
abbrev pub node_of : ℕ → List Entry → Result Element MapError
node_of at entries =
    need at (with_some (member (codes "id") entries) whole_number_of) (λ id.
    need at (with_some (member (codes "lat") entries) number_of) (λ lat.
    need at (with_some (member (codes "lon") entries) number_of) (λ lon.
    need at (tags_of entries) (λ tags.
    node_at id tags lat lon))))

-- the way of an element's members
abbrev pub way_of : ℕ → List Entry → Result Element MapError
way_of at entries =
    need at (with_some (member (codes "id") entries) whole_number_of) (λ id.
    need at (with_some (member (codes "nodes") entries) whole_list_of) (λ nodes.
    need at (tags_of entries) (λ tags.
    Ok (Way (record { id = id; content = nodes; tags = tags })))))

-- the relation of an element's members
abbrev pub relation_of : ℕ → List Entry → Result Element MapError
relation_of at entries =
    need at (with_some (member (codes "id") entries) whole_number_of) (λ id.
    need at (with_some (member (codes "members") entries) member_list_of) (λ members.
    need at (tags_of entries) (λ tags.
    Ok (Relation (record { id = id; content = members; tags = tags })))))

-- the element of members, by its type
abbrev pub element_by : List ℕ → ℕ → List Entry → Result Element MapError
element_by type at entries =
    if bytes_eq type (codes "node") then node_of at entries
    else if bytes_eq type (codes "way") then way_of at entries
    else if bytes_eq type (codes "relation") then relation_of at entries
    else Ok Other

-- the element that a whole value stands for, which is the element at this place of the text, from 1
abbrev pub element_of : ℕ → List Step → Result Element MapError
element_of at value =
    need at (members_of value) (λ entries.
    need at (with_some (member (codes "type") entries) text_of) (λ type.
    element_by type at entries))
