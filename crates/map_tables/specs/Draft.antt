-- What the elements of a map's text come to, kind by kind in the order of the text (this project's own rule).
use Rattle.std.specs.Prelude.{ℕ, ◌+◌, ℤ, Bool, ◌&&◌, List, [], ◌∷◌, length, slice_get, ◌<◌, ◌≡◌, nat_lt, nat_le, Option, Some, None, Result, Ok, if◌then◌else◌, IsTrue}
use Rattle.std.specs.Ordering.{int_eq}
use Rattle.std.specs.Str.{bytes_eq}
use lib.Pointwise.{pointwise}
use Rattle.geo_int.specs.Place.{Place}
use Rattle.item_list.specs.Answer.{and_then}
use Rattle.map_tables.specs.declared.limits.Limits.{Limits}
use Rattle.map_tables.specs.declared.member.Member.{Member}
use Rattle.map_tables.specs.declared.member.MemberLent.{MemberLent}
use Rattle.map_tables.specs.declared.error.MapError.{MapError}
use Rattle.map_tables.specs.declared.error.MapError.TheVariants as error_
use Rattle.map_tables.specs.declared.error.ElementKind.TheVariants as kind_
use Rattle.map_tables.specs.declared.error.MapCount.TheVariants as count_
use Rattle.map_tables.specs.Kept.{Kept, keep, total_of, AreDistinct, HoldsAt}

-- the elements so far, each kind in the order in which its ids came first
pub record Draft : Type 0 where
  pub nodes : List (Kept Place)
  pub ways : List (Kept (List ℤ))
  pub relations : List (Kept (List Member))

-- no elements
abbrev pub empty : Draft
empty = record { nodes = []; ways = []; relations = [] }

-- ---- When two contents are the same

-- the same coordinates
abbrev pub same_place : Place → Place → Bool
same_place p q = int_eq p.lon q.lon && int_eq p.lat q.lat

-- the same list of nodes
abbrev pub same_nodes : List ℤ → List ℤ → Bool
same_nodes = pointwise int_eq

-- the same member
abbrev pub same_member : Member → Member → Bool
same_member m n = bytes_eq m.kind n.kind && (int_eq m.reference n.reference && bytes_eq m.role n.role)

-- the same members in the same order
abbrev pub same_members : List Member → List Member → Bool
same_members = pointwise same_member

-- ---- Limits

-- how many segments a list of nodes has
abbrev pub segment_count : List ℤ → ℕ
segment_count [] = 0
segment_count (node ∷ nodes) = length nodes

-- how many segments the ways have
abbrev pub segments_in : List (Kept (List ℤ)) → ℕ
segments_in = total_of segment_count

-- how many members the relations have
abbrev pub members_in : List (Kept (List Member)) → ℕ
members_in = total_of length

-- a fault where something isn't so
abbrev pub fault_unless : Bool → MapError → Option MapError
fault_unless holds fault = if holds then None else Some fault

-- what is too large where one more node comes
abbrev pub beyond_nodes : Limits → Draft → Option MapError
beyond_nodes limits draft =
    fault_unless (nat_lt (length draft.nodes) limits.nodes) (error_.TooLarge count_.Nodes)

-- what is too large where one more way of these nodes comes: ways are counted before segments
abbrev pub beyond_ways : Limits → Draft → List ℤ → Option MapError
beyond_ways limits draft nodes =
    if nat_lt (length draft.ways) limits.ways
    then fault_unless (nat_le (segments_in draft.ways + segment_count nodes) limits.segments)
    (error_.TooLarge count_.Segments)
    else Some (error_.TooLarge count_.Ways)

-- what is too large where one more relation of these members comes
abbrev pub beyond_members : Limits → Draft → List Member → Option MapError
beyond_members limits draft members =
    fault_unless (nat_le (members_in draft.relations + length members) limits.members)
    (error_.TooLarge count_.Members)

-- ---- One more element

-- a draft with other nodes
abbrev pub with_nodes : Draft → List (Kept Place) → Draft
with_nodes draft nodes = record { nodes = nodes; ways = draft.ways; relations = draft.relations }

-- a draft with other ways
abbrev pub with_ways : Draft → List (Kept (List ℤ)) → Draft
with_ways draft ways = record { nodes = draft.nodes; ways = ways; relations = draft.relations }

-- a draft with other relations
abbrev pub with_relations : Draft → List (Kept (List Member)) → Draft
with_relations draft relations = record { nodes = draft.nodes; ways = draft.ways; relations = relations }

-- a draft with one more node, or the fault
abbrev pub take_node : Limits → Kept Place → Draft → Result Draft MapError
take_node limits node draft =
    and_then (keep same_place (error_.DoubleId kind_.Node node.id) (beyond_nodes limits draft) node
    draft.nodes)
    (λ nodes. Ok (with_nodes draft nodes))

-- a draft with one more way, or the fault
abbrev pub take_way : Limits → Kept (List ℤ) → Draft → Result Draft MapError
take_way limits way draft =
    and_then (keep same_nodes (error_.DoubleId kind_.Way way.id) (beyond_ways limits draft way.content) way
    draft.ways)
    (λ ways. Ok (with_ways draft ways))

-- a draft with one more relation, or the fault
abbrev pub take_relation : Limits → Kept (List Member) → Draft → Result Draft MapError
take_relation limits relation draft =
    and_then
    (keep same_members (error_.DoubleId kind_.Relation relation.id)
    (beyond_members limits draft relation.content) relation
    draft.relations)
    (λ relations. Ok (with_relations draft relations))

-- a draft keeps within the limits
pub record IsWithin (limits : Limits) (draft : Draft) : Type 0 where
  pub nodes : IsTrue (nat_le (length draft.nodes) limits.nodes)
  pub ways : IsTrue (nat_le (length draft.ways) limits.ways)
  pub segments : IsTrue (nat_le (segments_in draft.ways) limits.segments)
  pub members : IsTrue (nat_le (members_in draft.relations) limits.members)

-- each id of a kind is kept once
pub record HasDistinctIds (draft : Draft) : Type 0 where
  pub nodes : AreDistinct draft.nodes
  pub ways : AreDistinct draft.ways
  pub relations : AreDistinct draft.relations

-- ---- Members by their places

-- the relation at a place has a member at this place
abbrev pub HasMember : List (Kept (List Member)) → ℕ → ℕ → Type 0
HasMember relations place member = HoldsAt relations place (λ k. member < length k.content)

-- a fact of the member at a place of the relation at a place
abbrev pub HoldsAtMember : (relations : List (Kept (List Member))) (place member : ℕ) → (Member → Type 0) →
    Type 0
HoldsAtMember relations place member P =
    HoldsAt relations place (λ k. (m : Member) → slice_get k.content member ≡ Some m → P m)

-- the member that is lent
abbrev pub lent_member : MemberLent → Member
lent_member m = record { kind = m.kind.now; reference = m.reference; role = m.role.now }
