use Rattle.std.proofs.Common.{List, arith, sym, ◌∙◌, subst}
use Rattle.std.specs.List.{Contains}
use Rattle.space_search.specs.declared.fronts.Member.{Member}
use Rattle.space_search.proofs.FrontLemmas.{tested-more, tested-all}
use Rattle.space_search.proofs.offer.is_covered_by_block.Goals as goal

pub covers-requires-clause-small_a : goal.covers-requires-clause-small_a
covers-requires-clause-small_a g c =
    let there : Contains c.args.members.now.items c.one-item.result =
    subst (λ (l : List (Member g.row.T.Denot)). Contains l c.one-item.result) c.as_slice-one-items.ensures.value
    (c.members.one-index, c.members-test.true, sym c.one-item.is) in
    (c.requires.each c.one-item.result there).small

pub returns-then-covers-clause-covered : goal.returns-then-covers-clause-covered
returns-then-covers-clause-covered g c h =
    let there : Contains c.args.members.now.items c.one-item.result =
    subst (λ (l : List (Member g.row.T.Denot)). Contains l c.one-item.result) c.as_slice-one-items.ensures.value
    (c.members.one-index, c.members-test.true, sym c.one-item.is) in
    (c.one-item.result, there, sym c.covers.ensures.value ∙ c.if-covers.true)

pub members-preserved : goal.members-preserved
members-preserved g c =
    tested-more (g.S.Space.rules c.args.space.now) c.as_slice-one-items.result.now c.args.state.now c.args.cost c.members.one-index
    c.one-item.result c.members.invariant c.members-test.true c.one-item.is (sym c.covers.ensures.value ∙ c.if-covers.false)

pub returns-clause-uncovered : goal.returns-clause-uncovered
returns-clause-uncovered g c same one h =
    tested-all (g.S.Space.rules c.args.space.now) c.as_slice-one-items.result.now c.args.state.now c.args.cost c.members.one-index
    c.members.invariant (omega (arith, c.members-test.false)) one
    (subst (λ (l : List (Member g.row.T.Denot)). Contains l one) (sym c.as_slice-one-items.ensures.value) h)
