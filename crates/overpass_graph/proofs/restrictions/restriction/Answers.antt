-- The restriction that a relation is.
use Rattle.std.proofs.Common.{◌≡◌, sym, ap, subst, ◌∙◌}
use Rattle.std.specs.Prelude.{IfOk}
use Rattle.std.proofs.lemmas.Option.{slice_get-get_or}
use Rattle.overpass_graph.specs.Members.{no_relation, relation_at}
use Rattle.overpass_graph.specs.Orders.{picked}
use Rattle.overpass_graph.specs.Restrictions.{kind_for_bicycles}
use Rattle.overpass_graph.proofs.RestrictionLemmas.{restriction-no_kind, restriction-no_via, restriction-by}
use Rattle.overpass_graph.proofs.restrictions.restriction.Goals as goal

-- it is none for bicycles
pub returns-in_default-clause-exact : goal.returns-in_default-clause-exact
returns-in_default-clause-exact c =
    let tags = c.relation_tags.ensures.value _
    (slice_get-get_or c.args.tables.now.draft.relations c.args.relation no_relation c.requires.fits) in
    sym (restriction-no_kind (picked c.args.tables.now.draft.nodes c.args.order.now.places.items) c.args.tables.now.draft.ways
    (relation_at c.args.tables.now.draft.relations c.args.relation) (ap kind_for_bicycles (sym tags) ∙ sym c.in_default.ensures.value))

-- it lacks its node
pub returns-in_default-via_node-clause-exact : goal.returns-in_default-via_node-clause-exact
returns-in_default-via_node-clause-exact c =
    let tags = c.relation_tags.ensures.value _
    (slice_get-get_or c.args.tables.now.draft.relations c.args.relation no_relation c.requires.fits) in
    sym (restriction-no_via (picked c.args.tables.now.draft.nodes c.args.order.now.places.items) c.args.tables.now.draft.ways
    (relation_at c.args.tables.now.draft.relations c.args.relation) c.in-Some.kind (ap kind_for_bicycles (sym tags)
    ∙ sym c.in-Some.ensures.value)
    (sym c.in_default-via_node.ensures.value))

-- it has both
pub returns-clause-exact : goal.returns-clause-exact
returns-clause-exact c =
    let tags = c.relation_tags.ensures.value _
    (slice_get-get_or c.args.tables.now.draft.relations c.args.relation no_relation c.requires.fits) in
    subst (λ y. IfOk c.restriction_at.result (λ r. r ≡ y))
    (sym (restriction-by (picked c.args.tables.now.draft.nodes c.args.order.now.places.items) c.args.tables.now.draft.ways
    (relation_at c.args.tables.now.draft.relations c.args.relation) c.in-Some.kind c.in-Some-via_node.via (ap kind_for_bicycles (sym tags)
    ∙ sym c.in-Some.ensures.value)
    (sym c.in-Some-via_node.ensures.value)))
    c.restriction_at.ensures.exact
