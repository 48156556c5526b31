-- The ways with the tags so far, and those of the members that are left.
use Rattle.std.proofs.Common.{drop}
use lib.Chars.{codes}
use Rattle.overpass_graph.specs.Members.{members_at}
use Rattle.overpass_graph.specs.RouteTags.{tag_members}
use Rattle.overpass_graph.specs.Tagging.{TagsOn}
use Rattle.overpass_graph.proofs.routes.tag_ways.Given as goal

abbrev pub invariant-members : goal.invariant-members
invariant-members l =
    TagsOn l.initial.tables l.tables
    (tag_members (l.name, codes "yes") (drop l.member (members_at l.initial.tables.draft.relations l.relation)))
    (tag_members (l.name, codes "yes") (members_at l.initial.tables.draft.relations l.relation))
