-- The node of the only member in the role `via`.
use Rattle.std.proofs.Common.{◌≡◌, ℕ, ◌+◌, ◌<◌, List, [], ◌∷◌, length, get_or, drop, None, refl, sym, ap, subst, ◌∙◌, arith}
use Rattle.std.proofs.lemmas.Option.{slice_get-get_or, same_Some}
use lib.Chars.{codes}
use Rattle.geo_int.specs.Place.{Place}
use Rattle.map_tables.specs.Kept.{Kept}
use Rattle.map_tables.specs.declared.member.Member.{Member}
use Rattle.overpass_graph.specs.Members.{members_at, no_member, no_relation, node_of}
use Rattle.overpass_graph.specs.Orders.{picked}
use Rattle.overpass_graph.specs.Restrictions.{in_role, via_of}
use Rattle.overpass_graph.proofs.members.via_node.Goals as goal

module _ (nodes : List (Kept Place)) (members : List Member) (role : List ℕ) (is : role ≡ codes "via") where
  -- no member has the role
  via-none : in_role role members ≡ [] → via_of nodes members ≡ None
  via-none none = let e : in_role (codes "via") members ≡ [] = subst (λ r. in_role r members ≡ []) is none in rw e refl

  module _ (n : ℕ) (here : in_role role members ≡ get_or members n no_member ∷ in_role role (drop (n + 1) members))
      (again : List ℕ) (too : again ≡ codes "via") where
    -- the first member that has it, and those behind
    via-first : (later : List Member) → in_role again (drop (n + 1) members) ≡ later →
        in_role (codes "via") members ≡ get_or members n no_member ∷ later
    via-first later rest =
        subst (λ r. in_role r members ≡ get_or members n no_member ∷ in_role r (drop (n + 1) members)) is here
        ∙ ap (λ ms. get_or members n no_member ∷ ms) (subst (λ r. in_role r (drop (n + 1) members) ≡ later) too rest)

    -- one member has it
    via-one : in_role again (drop (n + 1) members) ≡ [] → via_of nodes members ≡ node_of nodes (get_or members n no_member)
    via-one rest = let e = via-first [] rest in rw e refl

    -- two have it
    via-two : (m : Member) (ms : List Member) → in_role again (drop (n + 1) members) ≡ m ∷ ms → via_of nodes members ≡ None
    via-two m ms rest = let e = via-first (m ∷ ms) rest in rw e refl

pub returns-in_default-clause-value : goal.returns-in_default-clause-value
returns-in_default-clause-value c =
    sym (via-none (picked c.args.tables.now.draft.nodes c.args.order.now.places.items)
    (members_at c.args.tables.now.draft.relations c.args.relation) c.as_slice.result.now c.as_slice.ensures c.in_default.ensures.value)

pub returns-then-first-count-clause-value : goal.returns-then-first-count-clause-value
returns-then-first-count-clause-value c =
    let here = slice_get-get_or c.args.tables.now.draft.relations c.args.relation no_relation c.requires.fits in
    absurd (omega (arith, c.members-count.ensures.value _ here, c.in-Some.ensures.value.0, c.if-first-count.true))

pub node_of-requires-clause-among : goal.node_of-requires-clause-among
node_of-requires-clause-among c = λ k there.
    let here = slice_get-get_or c.args.tables.now.draft.relations c.args.relation no_relation c.requires.fits in
    subst (λ (k : Kept (List Member)). c.in-Some.first < length k.content) (same_Some _ _ (sym here ∙ there)) c.in-Some.ensures.value.0

pub returns-in-Some-next_in_role-clause-value : goal.returns-in-Some-next_in_role-clause-value
returns-in-Some-next_in_role-clause-value c =
    sym (via-two (picked c.args.tables.now.draft.nodes c.args.order.now.places.items)
    (members_at c.args.tables.now.draft.relations c.args.relation) c.as_slice.result.now c.as_slice.ensures
    c.in-Some.first c.in-Some.ensures.value.1 c.as_slice-2.result.now c.as_slice-2.ensures _ _ c.in-Some-next_in_role.ensures.value.1)

pub returns-in-None-clause-value : goal.returns-in-None-clause-value
returns-in-None-clause-value c =
    let here = slice_get-get_or c.args.tables.now.draft.relations c.args.relation no_relation c.requires.fits in
    c.node_of.ensures.value _ here _
    (slice_get-get_or (members_at c.args.tables.now.draft.relations c.args.relation) c.in-Some.first no_member c.in-Some.ensures.value.0)
    ∙ sym (via-one (picked c.args.tables.now.draft.nodes c.args.order.now.places.items)
    (members_at c.args.tables.now.draft.relations c.args.relation) c.as_slice.result.now c.as_slice.ensures
    c.in-Some.first c.in-Some.ensures.value.1 c.as_slice-2.result.now c.as_slice-2.ensures c.in-None.ensures.value)

pub returns-in-None-clause-within : goal.returns-in-None-clause-within
returns-in-None-clause-within c = c.node_of.ensures.within
