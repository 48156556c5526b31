-- One relation after the other.
use Rattle.std.proofs.Common.{◌<◌, ◌≤◌, refl, subst, arith}
use Rattle.std.proofs.lemmas.Result.{err_from_is_err_and}
use Rattle.overpass_graph.specs.Orders.{picked}
use Rattle.overpass_graph.proofs.RestrictionLemmas.{restrictions-on, restrictions-end}
use Rattle.overpass_graph.proofs.restrictions.restrictions.Goals as goal

pub relations-init : goal.relations-init
relations-init c = rw c.new-list.ensures.items (refl, λ k within. absurd (omega arith))

pub add_restriction-requires-clause-fits : goal.add_restriction-requires-clause-fits
add_restriction-requires-clause-fits c =
    subst (λ n. c.relations.relation < n) c.relations-relation-end.ensures.value c.relations-test.true

pub add_restriction-requires-clause-distinct : goal.add_restriction-requires-clause-distinct
add_restriction-requires-clause-distinct c = c.requires.distinct

pub add_restriction-requires-clause-order : goal.add_restriction-requires-clause-order
add_restriction-requires-clause-order c = c.requires.order

pub add_restriction-requires-clause-below : goal.add_restriction-requires-clause-below
add_restriction-requires-clause-below c = c.relations.invariant.1

pub returns-in_err-add_restriction-clause-exact : goal.returns-in_err-add_restriction-clause-exact
returns-in_err-add_restriction-clause-exact c =
    let p = err_from_is_err_and c.from_residual.result c.from_residual.ensures.1 in
    rw p.1 tt

pub returns-in_err-add_restriction-clause-below : goal.returns-in_err-add_restriction-clause-below
returns-in_err-add_restriction-clause-below c =
    let p = err_from_is_err_and c.from_residual.result c.from_residual.ensures.1 in
    rw p.1 tt

pub relations-preserved : goal.relations-preserved
relations-preserved c = (
  restrictions-on (picked c.args.tables.now.draft.nodes c.args.order.now.places.items) c.args.tables.now.draft.ways
      c.args.tables.now.draft.relations c.relations.relation _ _ _
      (subst (λ n. c.relations.relation < n) c.relations-relation-end.ensures.value c.relations-test.true)
      c.relations.invariant.0 c.in_ok-add_restriction.ensures.value,
  c.in_ok-add_restriction.ensures.below,
)

pub returns-clause-exact : goal.returns-clause-exact
returns-clause-exact c =
    restrictions-end (picked c.args.tables.now.draft.nodes c.args.order.now.places.items) c.args.tables.now.draft.ways
    c.args.tables.now.draft.relations c.relations.relation _ _
    (subst (λ n. n ≤ c.relations.relation) c.relations-relation-end.ensures.value c.relations-test.false)
    c.relations.invariant.0

pub returns-clause-below : goal.returns-clause-below
returns-clause-below c = c.relations.invariant.1
