-- One more tag for the way that a member is.
use Rattle.std.proofs.Common.{sym, ap, ◌∙◌}
use Rattle.std.proofs.lemmas.Option.{slice_get-get_or}
use lib.Chars.{codes}
use Rattle.overpass_graph.specs.Maps.{no_way, way_at}
use Rattle.overpass_graph.specs.Members.{with_more_tags}
use Rattle.overpass_graph.proofs.RouteLemmas.{once-none, once-one, on_ok}
use Rattle.overpass_graph.proofs.routes.tag_member.Goals as goal

-- it is none
pub returns-in-None-clause-value : goal.returns-in-None-clause-value
returns-in-None-clause-value c k at m among =
    ap (with_more_tags c.args.tables.now)
    (sym (once-none (c.args.name.now, codes "yes") m c.args.tables.now.draft.ways (sym (c.in-None.ensures.value k at m among))))

-- it is one
pub returns-in-Some-clause-value : goal.returns-in-Some-clause-value
returns-in-Some-clause-value c =
    let there = slice_get-get_or c.args.tables.now.draft.ways c.in-Some.way no_way c.in-Some.ensures.within in
    on_ok c.tag_way.result
    (λ is k at m among. is ∙ ap (with_more_tags c.args.tables.now)
    (once-one (c.args.name.now, codes "yes") m c.args.tables.now.draft.ways c.in-Some.way
    (way_at c.args.tables.now.draft.ways c.in-Some.way)
    c.limits-limits.ensures.distinct.ways (sym (c.in-Some.ensures.value k at m among)) there))
    (c.tag_way.ensures.value (way_at c.args.tables.now.draft.ways c.in-Some.way) there)
