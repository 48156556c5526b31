-- Turn restrictions of a map, and which link they forbid after which (this project's own rules, after the
-- tags of OpenStreetMap).
use Rattle.std.specs.Prelude.{ℕ, ℤ, Bool, false, ◌&&◌, ◌||◌, not, ◌==◌, nat_eq, List, [], ◌∷◌, Option, Some, None, if◌then◌else◌}
use Rattle.std.specs.List.{slice_split, starts_with}
use Rattle.std.specs.Str.{bytes_eq}
use lib.Chars.{codes}
use Rattle.geo_int.specs.Place.{Place}
use Rattle.map_tables.specs.Kept.{Kept, Tag, place_of_id}
use Rattle.map_tables.specs.declared.member.Member.{Member}
use Rattle.overpass_graph.specs.declared.link.Link.{Link}
use Rattle.overpass_graph.specs.declared.restriction.Restriction.{Restriction}
use Rattle.overpass_graph.specs.declared.restriction.RestrictionKind.{RestrictionKind}
use Rattle.overpass_graph.specs.declared.restriction.RestrictionKind.TheVariants as kind_
use Rattle.overpass_graph.specs.RouteTags.{value_of}

-- ---- Texts

-- a text without the spaces at its front
abbrev pub without_front : List ℕ → List ℕ
without_front [] = []
without_front (c ∷ cs) = if c == 32 then without_front cs else c ∷ cs

-- a text without the spaces at its end
abbrev pub without_end : List ℕ → List ℕ
without_end [] = []
without_end (c ∷ cs) = before c (without_end cs)
  where
    before : ℕ → List ℕ → List ℕ
    before c [] = if c == 32 then [] else c ∷ []
    before c (d ∷ ds) = c ∷ d ∷ ds

-- a text without the spaces at its ends
abbrev pub trimmed : List ℕ → List ℕ
trimmed text = without_end (without_front text)

-- the pieces of a text between its semicolons
abbrev pub pieces : List ℕ → List (List ℕ)
pieces text = slice_split (λ b. b == 59) text

-- one of these pieces says `bicycle`
abbrev pub names_bicycle : List (List ℕ) → Bool
names_bicycle [] = false
names_bicycle (piece ∷ later) = bytes_eq (trimmed piece) (codes "bicycle") || names_bicycle later

-- ---- Relations

-- the kind of a restriction by the value of its tag
abbrev pub kind_of : List ℕ → Option RestrictionKind
kind_of value =
    if starts_with nat_eq value (codes "no_") then Some kind_.No
    else if starts_with nat_eq value (codes "only_") then Some kind_.Only
    else None

-- the restriction doesn't hold for bicycles
abbrev pub excepts_bicycles : Option (List ℕ) → Bool
excepts_bicycles None = false
excepts_bicycles (Some value) = names_bicycle (pieces value)

-- the kind of the restriction that a relation with these tags is for bicycles
unfoldable pub kind_for_bicycles : List Tag → Option RestrictionKind
kind_for_bicycles tags = by_values (value_of (codes "type") tags) (value_of (codes "restriction") tags)
  where
    by_values : Option (List ℕ) → Option (List ℕ) → Option RestrictionKind
    by_values (Some type) (Some value) =
        if bytes_eq type (codes "restriction") &&
        not (excepts_bicycles (value_of (codes "except") tags)) then kind_of value else None
    by_values (Some type) None = None
    by_values None value = None

-- the members with this role, in their order
abbrev pub in_role : List ℕ → List Member → List Member
in_role role [] = []
in_role role (member ∷ members) =
    if bytes_eq member.role role then member ∷ in_role role members else in_role role members

-- the node of the only member with the role `via`
abbrev pub via_of : List (Kept Place) → List Member → Option ℕ
via_of nodes members = only (in_role (codes "via") members)
  where
    only : List Member → Option ℕ
    only [] = None
    only (member ∷ []) = if bytes_eq member.kind (codes "node") then place_of_id member.reference
        nodes else None
    only (member ∷ other ∷ others) = None

-- the way that a member is, where it is one of the map
abbrev pub way_of : List (Kept (List ℤ)) → Member → Option ℕ
way_of ways member = if bytes_eq member.kind (codes "way") then place_of_id member.reference ways else None

-- the ways of the map among these members, in their order
abbrev pub ways_of : List (Kept (List ℤ)) → List Member → List ℕ
ways_of ways [] = []
ways_of ways (member ∷ members) = before (way_of ways member) (ways_of ways members)
  where
    before : Option ℕ → List ℕ → List ℕ
    before None later = later
    before (Some way) later = way ∷ later

-- the restriction of this kind, via node and lists of ways; both lists have a way
abbrev pub restriction_by : Option RestrictionKind → Option ℕ → List ℕ → List ℕ → Option Restriction
restriction_by (Some kind) (Some via) (from ∷ froms) (to ∷ tos) =
    Some (record { kind = kind; via = via; from = from ∷ froms; to = to ∷ tos })
restriction_by (Some kind) (Some via) (from ∷ froms) [] = None
restriction_by (Some kind) (Some via) [] tos = None
restriction_by (Some kind) None froms tos = None
restriction_by None via froms tos = None

-- the restriction that a relation is, where it is one
unfoldable pub restriction_of : List (Kept Place) → List (Kept (List ℤ)) → Kept (List Member) →
    Option Restriction
restriction_of nodes ways relation =
    restriction_by (kind_for_bicycles relation.tags) (via_of nodes relation.content)
    (ways_of ways (in_role (codes "from") relation.content))
    (ways_of ways (in_role (codes "to") relation.content))

-- one more restriction in front, where there is one
abbrev pub put_before : Option Restriction → List Restriction → List Restriction
put_before None later = later
put_before (Some restriction) later = restriction ∷ later

-- the restrictions among relations, in their order
abbrev pub restrictions_of : List (Kept Place) → List (Kept (List ℤ)) → List (Kept (List Member)) →
    List Restriction
restrictions_of nodes ways [] = []
restrictions_of nodes ways (relation ∷ relations) =
    put_before (restriction_of nodes ways relation) (restrictions_of nodes ways relations)

-- ---- What is forbidden

-- a number is in a list
abbrev pub is_in : ℕ → List ℕ → Bool
is_in n [] = false
is_in n (m ∷ ms) = (m == n) || is_in n ms

-- a restriction of this kind forbids its turn from a way to a way, of which the second is or isn't among its
-- second ways
abbrev pub forbids_turn : RestrictionKind → Bool → ℕ → ℕ → Bool
forbids_turn kind_.No is_to first second = is_to && not (first == second)
forbids_turn kind_.Only is_to first second = not is_to

-- a restriction forbids a way after a way
abbrev pub forbids_ways : Restriction → ℕ → ℕ → Bool
forbids_ways r first second = is_in first r.from && forbids_turn r.kind (is_in second r.to) first second

-- a restriction forbids the second link after the first: they meet at its node
abbrev pub forbids_by : Restriction → Link → Link → Bool
forbids_by r first second = ((r.via == first.to) && (r.via == second.from)) &&
    forbids_ways r first.way second.way

-- one of these restrictions forbids the second link after the first
abbrev pub forbids_any : List Restriction → Link → Link → Bool
forbids_any [] first second = false
forbids_any (r ∷ rs) first second = forbids_by r first second || forbids_any rs first second
