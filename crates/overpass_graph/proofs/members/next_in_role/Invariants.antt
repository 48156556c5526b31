-- No member so far has the role.
use Rattle.std.proofs.Common.{◌≡◌, drop}
use Rattle.overpass_graph.specs.Members.{members_at}
use Rattle.overpass_graph.specs.Restrictions.{in_role}
use Rattle.overpass_graph.proofs.members.next_in_role.Given as goal

abbrev pub invariant-members : goal.invariant-members
invariant-members l =
    in_role l.role (drop l.member (members_at l.tables.draft.relations l.relation))
    ≡ in_role l.role (drop l.from (members_at l.tables.draft.relations l.relation))
