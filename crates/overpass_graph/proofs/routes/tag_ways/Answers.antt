-- The ways of a relation.
use Rattle.std.proofs.Common.{◌≡◌, ◌<◌, ◌≤◌, ◌+◌, length, get_or, drop, slice_get, Some, ap, ◌∙◌, arith}
use Rattle.std.proofs.lemmas.Option.{slice_get-get_or}
use lib.Chars.{codes}
use Rattle.overpass_graph.specs.Members.{members_at, no_member, no_relation, relation_at, tag_once}
use Rattle.overpass_graph.specs.RouteTags.{tag_members}
use Rattle.overpass_graph.proofs.TaggingLemmas.{tags-on, tags-end, member-step, member-end}
use Rattle.overpass_graph.proofs.routes.tag_ways.Goals as goal

-- one more
pub members-preserved : goal.members-preserved
members-preserved c =
    let here = slice_get-get_or c.args.tables.now.draft.relations c.args.relation no_relation c.requires.fits in
    let count : c.members-member-end.result ≡ length (members_at c.args.tables.now.draft.relations c.args.relation) =
    c.members-member-end.ensures.value _ here in
    let below : c.members.member < length (members_at c.args.tables.now.draft.relations c.args.relation) =
    omega (arith, count, c.members-test.true) in
    let same : c.members.tables.draft.relations ≡ c.args.tables.now.draft.relations =
    ap (λ h. h.draft.relations) c.members.invariant.held in
    let there : slice_get c.members.tables.draft.relations c.args.relation ≡
    Some (relation_at c.args.tables.now.draft.relations c.args.relation) =
    ap (λ rs. slice_get rs c.args.relation) same ∙ here in
    tags-on c.args.tables.now c.members.tables c.tag_member.new.tables
    (tag_once (c.args.name.now, codes "yes")
    (get_or (members_at c.args.tables.now.draft.relations c.args.relation) c.members.member no_member) c.members.tables.draft.ways)
    (tag_members (c.args.name.now, codes "yes") (drop c.members.member (members_at c.args.tables.now.draft.relations c.args.relation)))
    (tag_members (c.args.name.now, codes "yes")
    (drop (c.members.member + 1) (members_at c.args.tables.now.draft.relations c.args.relation)))
    (tag_members (c.args.name.now, codes "yes") (members_at c.args.tables.now.draft.relations c.args.relation))
    c.members.invariant
    (c.in_ok-tag_member.ensures.value _ there _
    (slice_get-get_or (members_at c.args.tables.now.draft.relations c.args.relation) c.members.member no_member below))
    (member-step (c.args.name.now, codes "yes") (members_at c.args.tables.now.draft.relations c.args.relation) c.members.member
    c.members.tables.draft.ways below)

-- all
pub returns-clause-value : goal.returns-clause-value
returns-clause-value c =
    let here = slice_get-get_or c.args.tables.now.draft.relations c.args.relation no_relation c.requires.fits in
    let count : c.members-member-end.result ≡ length (members_at c.args.tables.now.draft.relations c.args.relation) =
    c.members-member-end.ensures.value _ here in
    let past : length (members_at c.args.tables.now.draft.relations c.args.relation) ≤ c.members.member =
    omega (arith, count, c.members-test.false) in
    tags-end c.args.tables.now c.members.tables
    (tag_members (c.args.name.now, codes "yes") (drop c.members.member (members_at c.args.tables.now.draft.relations c.args.relation)))
    (tag_members (c.args.name.now, codes "yes") (members_at c.args.tables.now.draft.relations c.args.relation))
    c.members.invariant
    (member-end (c.args.name.now, codes "yes") (members_at c.args.tables.now.draft.relations c.args.relation) c.members.member
    c.members.tables.draft.ways past)
