-- The ways so far, and those of the members that are left.
use Rattle.std.proofs.Common.{◌≡◌, ◌++◌, drop}
use Rattle.overpass_graph.specs.Members.{members_at}
use Rattle.overpass_graph.specs.Restrictions.{in_role, ways_of}
use Rattle.overpass_graph.proofs.members.ways_in_role.Given as goal

abbrev pub invariant-members : goal.invariant-members
invariant-members l =
    l.ways.items ++ ways_of l.tables.draft.ways (in_role l.role (drop l.member (members_at l.tables.draft.relations l.relation)))
    ≡ ways_of l.tables.draft.ways (in_role l.role (members_at l.tables.draft.relations l.relation))
