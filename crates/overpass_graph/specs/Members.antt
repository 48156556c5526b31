-- The members of the relations of a draft, by place.
use Rattle.std.specs.Prelude.{◌≡◌, ℕ, ℤ, pos, ◌+◌, ◌<◌, List, [], ◌∷◌, length, drop, get_or, Option, Some, None, if◌then◌else◌}
use Rattle.std.specs.Str.{bytes_eq}
use lib.Chars.{codes}
use Rattle.geo_int.specs.Place.{Place}
use Rattle.map_tables.specs.Draft.{with_ways}
use Rattle.map_tables.specs.Held.{Held}
use Rattle.map_tables.specs.Kept.{Kept, Tag, place_of_id}
use Rattle.map_tables.specs.declared.member.Member.{Member}
use Rattle.overpass_graph.specs.Restrictions.{in_role}
use Rattle.overpass_graph.specs.RouteTags.{tag_with_id}

-- no relation
abbrev pub no_relation : Kept (List Member)
no_relation = record { id = pos 0; content = []; tags = [] }

-- the relation at a place
abbrev pub relation_at : List (Kept (List Member)) → ℕ → Kept (List Member)
relation_at relations place = get_or relations place no_relation

-- the members of the relation at a place
abbrev pub members_at : List (Kept (List Member)) → ℕ → List Member
members_at relations place = (relation_at relations place).content

-- no member
abbrev pub no_member : Member
no_member = record { kind = []; reference = pos 0; role = [] }

-- the place of the next member in a role from a place on, where there is one
abbrev pub IsNext : List ℕ → List Member → ℕ → Option ℕ → Type 0
IsNext role members from None = in_role role (drop from members) ≡ []
IsNext role members from (Some k) =
    (k < length members) × (in_role role (drop from members) ≡
    get_or members k no_member ∷ in_role role (drop (k + 1) members))

-- the node of the map that a member is
abbrev pub node_of : List (Kept Place) → Member → Option ℕ
node_of nodes member = if bytes_eq member.kind (codes "node") then place_of_id member.reference
    nodes else None

-- a way that is kept
abbrev pub KeptWay : Type 0
KeptWay = Kept (List ℤ)

-- the ways with one more tag for the one that a member is
abbrev pub tag_once : Tag → Member → List KeptWay → List KeptWay
tag_once tag member ways = if bytes_eq member.kind (codes "way") then tag_with_id member.reference tag
    ways else ways

-- what tables hold, with other ways
abbrev pub with_more_tags : Held → List KeptWay → Held
with_more_tags held ways = record { limits = held.limits; draft = with_ways held.draft ways }
