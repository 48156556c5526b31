-- The ways of a relation, where it is a route.
use Rattle.std.proofs.Common.{◌≡◌, None, Some, sym, ap, subst, ◌∙◌, ℕ, List}
use Rattle.std.specs.Prelude.{OnOk}
use Rattle.std.proofs.lemmas.Option.{slice_get-get_or}
use lib.Chars.{codes}
use Rattle.overpass_graph.specs.Members.{no_relation, members_at, with_more_tags}
use Rattle.overpass_graph.specs.RouteTags.{tag_of_route, with_route}
use Rattle.overpass_graph.proofs.routes.tag_route.Goals as goal

pub returns-in_default-clause-value : goal.returns-in_default-clause-value
returns-in_default-clause-value c = tt

pub tag_ways-requires : goal.tag_ways-requires
tag_ways-requires c = record { fits = c.requires.fits }

pub returns-in-None-clause-value : goal.returns-in-None-clause-value
returns-in-None-clause-value c =
    let tags = c.relation_tags.ensures.value _
    (slice_get-get_or c.args.tables.now.draft.relations c.args.relation no_relation c.requires.fits) in
    let none : tag_of_route c.relation_tags.result.now ≡ None = rw c.in-None.is at c.in-Ok.ensures.exact in
    ap (λ o. with_more_tags c.args.tables.now
    (with_route o (members_at c.args.tables.now.draft.relations c.args.relation) c.args.tables.now.draft.ways))
    (sym none ∙ ap tag_of_route tags)

pub returns-in-Some-clause-value : goal.returns-in-Some-clause-value
returns-in-Some-clause-value c =
    let tags = c.relation_tags.ensures.value _
    (slice_get-get_or c.args.tables.now.draft.relations c.args.relation no_relation c.requires.fits) in
    let some : tag_of_route c.relation_tags.result.now ≡ Some (c.in-Some.name.items, codes "yes") =
    rw c.in-Some.is at c.in-Ok.ensures.exact in
    subst
    (λ o. OnOk c.tag_ways.result (c.tag_ways.new.tables ≡
    with_more_tags c.args.tables.now
    (with_route o (members_at c.args.tables.now.draft.relations c.args.relation) c.args.tables.now.draft.ways)))
    (ap (λ (n : List ℕ). Some (n, codes "yes")) c.as_slice.ensures.value ∙ sym some ∙ ap tag_of_route tags)
    c.tag_ways.ensures.value

pub returns-in-Some-clause-refused : goal.returns-in-Some-clause-refused
returns-in-Some-clause-refused c = c.tag_ways.ensures.refused
