-- The ways with the tags so far, and those of the relations that are left.
use Rattle.std.proofs.Common.{drop}
use Rattle.overpass_graph.specs.RouteTags.{with_routes}
use Rattle.overpass_graph.specs.Tagging.{TagsOn}
use Rattle.overpass_graph.proofs.routes.tag_routes.Given as goal

abbrev pub invariant-relations : goal.invariant-relations
invariant-relations l =
    TagsOn l.initial.tables l.tables (with_routes (drop l.relation l.initial.tables.draft.relations))
    (with_routes l.initial.tables.draft.relations)
