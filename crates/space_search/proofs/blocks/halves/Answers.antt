use Rattle.std.proofs.Common.{◌≡◌, List, Some, length, refl, sym, subst, arith}
use Rattle.std.proofs.lemmas.Option.{slice_get_read}
use Rattle.std.specs.List.{slice_get, Contains}
use Rattle.space_search.specs.Blocks.{Splits}
use Rattle.space_search.specs.declared.fronts.Member.{Member}
use Rattle.space_search.proofs.SplitLemmas.{split-none, floor-none, split-near, split-far, split-all}
use Rattle.space_search.proofs.blocks.halves.Goals.{then-is_near+in_ok-add_to, else-is_near+in_ok-add_to-2}
use Rattle.space_search.proofs.blocks.halves.Goals as goal

pub point-point-requires-clause-small : goal.point-point-requires-clause-small
point-point-requires-clause-small g c =
    let there : Contains c.args.block.now.members.items c.one-item.result =
    subst (λ (l : List (Member g.row.T.Denot)). Contains l c.one-item.result) c.as_slice-one-items.ensures.value
    (c.members.one-index, c.members-test.true, sym c.one-item.is) in
    (c.requires.each c.one-item.result there).small

pub add_to-requires-clause-fits : goal.add_to-requires-clause-fits
add_to-requires-clause-fits g c =
    let there : Contains c.args.block.now.members.items c.one-item.result =
    subst (λ (l : List (Member g.row.T.Denot)). Contains l c.one-item.result) c.as_slice-one-items.ensures.value
    (c.members.one-index, c.members-test.true, sym c.one-item.is) in
    c.requires.each c.one-item.result there

pub add_to-requires-else-is_near-clause-fits : goal.add_to-requires-else-is_near-clause-fits
add_to-requires-else-is_near-clause-fits g c =
    let there : Contains c.args.block.now.members.items c.one-item.result =
    subst (λ (l : List (Member g.row.T.Denot)). Contains l c.one-item.result) c.as_slice-one-items.ensures.value
    (c.members.one-index, c.members-test.true, sym c.one-item.is) in
    c.requires.each c.one-item.result there

pub members-preserved : goal.members-preserved
members-preserved g c =
    let at : slice_get c.as_slice-one-items.result.now c.members.one-index ≡ Some c.one-item.result =
    slice_get_read c.as_slice-one-items.result.now (length c.as_slice-one-items.result.now) c.members.one-index c.one-item.result refl
    c.members-test.true c.one-item.is in
    elim c.if-is_near.branch [
      | then-is_near+in_ok-add_to w ↦
          rw (w.near-is, w.far-is) (
            rw w.in_ok-add_to.ensures.adds
                (split-near c.as_slice-one-items.result.now c.members.near.members.items c.members.far.members.items c.members.one-index
                c.one-item.result c.members.invariant.0 at),
            w.in_ok-add_to.ensures.floor,
            c.members.invariant.2,
          )
      | else-is_near+in_ok-add_to-2 w ↦
          rw (w.near-is, w.far-is) (
            rw w.in_ok-add_to-2.ensures.adds
                (split-far c.as_slice-one-items.result.now c.members.near.members.items c.members.far.members.items c.members.one-index
                c.one-item.result c.members.invariant.0 at),
            c.members.invariant.1,
            w.in_ok-add_to-2.ensures.floor,
          )
    ]

pub returns-clause-splits : goal.returns-clause-splits
returns-clause-splits g c =
    subst (λ (l : List (Member g.row.T.Denot)). Splits l c.members.near.members.items c.members.far.members.items)
    c.as_slice-one-items.ensures.value
    (split-all c.as_slice-one-items.result.now c.members.near.members.items c.members.far.members.items c.members.one-index
    c.members.invariant.0 (omega (arith, c.members-test.false)))

pub members-init : goal.members-init
members-init g c = (
  split-none _ _ _ c.new-near.ensures.none c.new-far.ensures.none,
  floor-none (g.S.Space.rules c.args.space.now) c.new-near.result.low c.new-near.result.members.items c.new-near.ensures.none,
  floor-none (g.S.Space.rules c.args.space.now) c.new-far.result.low c.new-far.result.members.items c.new-far.ensures.none,
)

pub point-point-requires-clause-valid : goal.point-point-requires-clause-valid
point-point-requires-clause-valid g c =
    let there : Contains c.args.block.now.members.items c.one-item.result =
    subst (λ (l : List (Member g.row.T.Denot)). Contains l c.one-item.result) c.as_slice-one-items.ensures.value
    (c.members.one-index, c.members-test.true, sym c.one-item.is) in
    (c.requires.each c.one-item.result there).valid

pub add_to-requires-clause-floor : goal.add_to-requires-clause-floor
add_to-requires-clause-floor g c = c.members.invariant.1

pub add_to-requires-else-is_near-clause-floor : goal.add_to-requires-else-is_near-clause-floor
add_to-requires-else-is_near-clause-floor g c = c.members.invariant.2

pub returns-clause-floors : goal.returns-clause-floors
returns-clause-floors g c = (c.members.invariant.1, c.members.invariant.2)
