-- The ways of the members in a role.
use Rattle.std.proofs.Common.{◌≡◌, ◌<◌, ◌≤◌, length, arith}
use Rattle.std.proofs.lemmas.Option.{slice_get-get_or}
use Rattle.overpass_graph.specs.Members.{members_at, no_relation, no_member}
use Rattle.overpass_graph.proofs.MemberLemmas.{ways-on, ways-end}
use Rattle.overpass_graph.proofs.members.ways_in_role.Goals as goal

-- one more
pub members-preserved : goal.members-preserved
members-preserved c =
    let here = slice_get-get_or c.args.tables.now.draft.relations c.args.relation no_relation c.requires.fits in
    let count : c.members-member-end.result ≡ length (members_at c.args.tables.now.draft.relations c.args.relation) =
    c.members-member-end.ensures.value _ here in
    let below : c.members.member < length (members_at c.args.tables.now.draft.relations c.args.relation) =
    omega (arith, count, c.members-test.true) in
    ways-on c.args.tables.now.draft.ways c.args.role.now (members_at c.args.tables.now.draft.relations c.args.relation) c.members.member _ _
    _ below c.members.invariant
    (c.in_ok-add_way.ensures.value _ here _
    (slice_get-get_or (members_at c.args.tables.now.draft.relations c.args.relation) c.members.member no_member below))

-- all
pub returns : goal.returns
returns c = record {
  exact =
      let here = slice_get-get_or c.args.tables.now.draft.relations c.args.relation no_relation c.requires.fits in
      let count : c.members-member-end.result ≡ length (members_at c.args.tables.now.draft.relations c.args.relation) =
      c.members-member-end.ensures.value _ here in
      let past : length (members_at c.args.tables.now.draft.relations c.args.relation) ≤ c.members.member =
      omega (arith, count, c.members-test.false) in
      ways-end c.args.tables.now.draft.ways c.args.role.now (members_at c.args.tables.now.draft.relations c.args.relation) c.members.member
      _ _ past c.members.invariant;
}
