-- The next member in a role.
use Rattle.std.proofs.Common.{◌≡◌, ◌<◌, ◌≤◌, length, sym, ◌∙◌, arith}
use Rattle.std.proofs.lemmas.Option.{slice_get-get_or}
use Rattle.overpass_graph.specs.Members.{members_at, no_relation, no_member}
use Rattle.overpass_graph.proofs.MemberLemmas.{role-here, role-past, role-end}
use Rattle.overpass_graph.proofs.members.next_in_role.Goals as goal

-- this one
pub returns-then-has_role : goal.returns-then-has_role
returns-then-has_role c = record {
  value =
      let here = slice_get-get_or c.args.tables.now.draft.relations c.args.relation no_relation c.requires.fits in
      let count : c.members-member-end.result ≡ length (members_at c.args.tables.now.draft.relations c.args.relation) =
      c.members-member-end.ensures.value _ here in
      let below : c.members.member < length (members_at c.args.tables.now.draft.relations c.args.relation) =
      omega (arith, count, c.members-test.true) in
      let role = c.has_role.ensures.value _ here _
      (slice_get-get_or (members_at c.args.tables.now.draft.relations c.args.relation) c.members.member no_member below) in (
        below,
        sym c.members.invariant
            ∙ role-here c.args.role.now (members_at c.args.tables.now.draft.relations c.args.relation) c.members.member below (sym role
            ∙ c.if-has_role.true),
      );
}

-- not this one
pub members-preserved : goal.members-preserved
members-preserved c =
    let here = slice_get-get_or c.args.tables.now.draft.relations c.args.relation no_relation c.requires.fits in
    let count : c.members-member-end.result ≡ length (members_at c.args.tables.now.draft.relations c.args.relation) =
    c.members-member-end.ensures.value _ here in
    let below : c.members.member < length (members_at c.args.tables.now.draft.relations c.args.relation) =
    omega (arith, count, c.members-test.true) in
    let role = c.has_role.ensures.value _ here _
    (slice_get-get_or (members_at c.args.tables.now.draft.relations c.args.relation) c.members.member no_member below) in
    sym (role-past c.args.role.now (members_at c.args.tables.now.draft.relations c.args.relation) c.members.member below (sym role
    ∙ c.if-has_role.false))
    ∙ c.members.invariant

-- none
pub returns : goal.returns
returns c = record {
  value =
      let here = slice_get-get_or c.args.tables.now.draft.relations c.args.relation no_relation c.requires.fits in
      let count : c.members-member-end.result ≡ length (members_at c.args.tables.now.draft.relations c.args.relation) =
      c.members-member-end.ensures.value _ here in
      let past : length (members_at c.args.tables.now.draft.relations c.args.relation) ≤ c.members.member =
      omega (arith, count, c.members-test.false) in
      sym c.members.invariant ∙ role-end c.args.role.now (members_at c.args.tables.now.draft.relations c.args.relation) c.members.member
      past;
}
