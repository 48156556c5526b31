-- The tags that ways get from the route relations that they belong to (this project's own rule).
use Rattle.std.specs.Prelude.{ℕ, ℤ, List, [], ◌∷◌, ◌++◌, Option, Some, None, if◌then◌else◌}
use Rattle.std.specs.Ordering.{int_eq}
use Rattle.std.specs.Str.{bytes_eq}
use lib.Chars.{codes}
use Rattle.map_tables.specs.Kept.{Kept, Tag, with_tag}
use Rattle.map_tables.specs.declared.member.Member.{Member}

-- the value of the first tag of this name
abbrev pub value_of : List ℕ → List Tag → Option (List ℕ)
value_of name [] = None
value_of name (tag ∷ tags) = if bytes_eq tag.0 name then Some tag.1 else value_of name tags

-- the tag of a route of this kind in this network
abbrev pub route_tag : List ℕ → List ℕ → Tag
route_tag route network = (codes "route_" ++ (route ++ (codes "_" ++ network)), codes "yes")

-- the tag that the ways of a relation with these tags get: it has `type=route`, a `route` and a `network`
abbrev pub tag_of_route : List Tag → Option Tag
tag_of_route tags = by_values (value_of (codes "type") tags) (value_of (codes "route") tags)
    (value_of (codes "network") tags)
  where
    by_values : Option (List ℕ) → Option (List ℕ) → Option (List ℕ) → Option Tag
    by_values (Some type) (Some route) (Some network) =
        if bytes_eq type (codes "route") then Some (route_tag route network) else None
    by_values (Some type) (Some route) None = None
    by_values (Some type) None network = None
    by_values None route network = None

-- the elements where the one of this id has one more tag
abbrev pub tag_with_id : {C : Type 0} → ℤ → Tag → List (Kept C) → List (Kept C)
tag_with_id id tag [] = []
tag_with_id id tag (k ∷ ks) = (if int_eq k.id id then with_tag tag k else k) ∷ tag_with_id id tag ks

-- the ways where each that is among these members has one more tag for each time that it is there
abbrev pub tag_members : Tag → List Member → List (Kept (List ℤ)) → List (Kept (List ℤ))
tag_members tag [] ways = ways
tag_members tag (member ∷ members) ways =
    tag_members tag members (if bytes_eq member.kind (codes "way") then tag_with_id member.reference tag
    ways else ways)

-- the ways with the tag of a relation, where it gives one
abbrev pub with_route : Option Tag → List Member → List (Kept (List ℤ)) → List (Kept (List ℤ))
with_route None members ways = ways
with_route (Some tag) members ways = tag_members tag members ways

-- the ways with the tags of all route relations, in their order
abbrev pub with_routes : List (Kept (List Member)) → List (Kept (List ℤ)) → List (Kept (List ℤ))
with_routes [] ways = ways
with_routes (relation ∷ relations) ways =
    with_routes relations (with_route (tag_of_route relation.tags) relation.content ways)
