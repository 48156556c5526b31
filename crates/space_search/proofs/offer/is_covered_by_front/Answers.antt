use Rattle.std.proofs.Common.{◌≡◌, List, Some, true, false, length, refl, sym, subst, arith}
use Rattle.std.proofs.lemmas.Option.{slice_get_read}
use Rattle.std.specs.List.{slice_get, Contains}
use Rattle.space_search.specs.Blocks.{members_of}
use Rattle.space_search.specs.Rules.{IsUnder}
use Rattle.space_search.specs.declared.fronts.Block.{Block}
use Rattle.space_search.specs.declared.point.Point.{Point}
use Rattle.space_search.proofs.BlockLemmas.{in-block}
use Rattle.space_search.proofs.FrontLemmas.{passed-more, passed-all, passed-over}
use Rattle.space_search.proofs.offer.is_covered_by_front.Goals.{else-is_under-via-then-is_under+else-is_covered_by_block, else-is_under-via-else-is_under}
use Rattle.space_search.proofs.offer.is_covered_by_front.Goals as goal

pub is_covered_by_block-requires-clause-each : goal.is_covered_by_block-requires-clause-each
is_covered_by_block-requires-clause-each g c one h =
    let at : slice_get c.args.front.now.items c.parts.block-index ≡ Some c.block-item.result =
    subst (λ (l : List (Block g.row.T.Denot)). slice_get l c.parts.block-index ≡ Some c.block-item.result)
    c.as_slice-block-items.ensures.value
    (slice_get_read c.as_slice-block-items.result.now (length c.as_slice-block-items.result.now) c.parts.block-index c.block-item.result
    refl c.parts-test.true c.block-item.is) in
    c.requires.each one (in-block c.args.front.now.items c.parts.block-index c.block-item.result one at h)

pub returns-then-is_covered_by_block-clause-covered : goal.returns-then-is_covered_by_block-clause-covered
returns-then-is_covered_by_block-clause-covered g c h =
    let at : slice_get c.args.front.now.items c.parts.block-index ≡ Some c.block-item.result =
    subst (λ (l : List (Block g.row.T.Denot)). slice_get l c.parts.block-index ≡ Some c.block-item.result)
    c.as_slice-block-items.ensures.value
    (slice_get_read c.as_slice-block-items.result.now (length c.as_slice-block-items.result.now) c.parts.block-index c.block-item.result
    refl c.parts-test.true c.block-item.is) in
    let one = c.is_covered_by_block.ensures.covered c.if-is_covered_by_block.true in
    (one.0, in-block c.args.front.now.items c.parts.block-index c.block-item.result one.0 at one.1, one.2)

pub parts-preserved : goal.parts-preserved
parts-preserved g c =
    let rules = g.S.Space.rules c.args.space.now in
    let items = c.as_slice-block-items.result.now in
    let block = c.block-item.result in
    let there : slice_get items c.parts.block-index ≡ Some block =
    slice_get_read items (length items) c.parts.block-index block refl c.parts-test.true c.block-item.is in
    let at : slice_get c.args.front.now.items c.parts.block-index ≡ Some block =
    subst (λ (l : List (Block g.row.T.Denot)). slice_get l c.parts.block-index ≡ Some block) c.as_slice-block-items.ensures.value there in
    elim c.else-is_under.branch [
      | else-is_under-via-then-is_under+else-is_covered_by_block w ↦
          passed-more rules items c.args.state.now c.args.cost c.parts.block-index block c.parts.invariant there
          (w.is_covered_by_block.ensures.uncovered w.if-is_covered_by_block.false)
      | else-is_under-via-else-is_under w ↦
          passed-more rules items c.args.state.now c.args.cost c.parts.block-index block c.parts.invariant there
          (passed-over rules (g.met.S.Space.keeps_laws c.args.space.now) block.low block.members.items c.args.state.now c.args.cost
          (c.requires.floors c.parts.block-index block at)
          (λ one h. c.requires.each one (in-block c.args.front.now.items c.parts.block-index block one at h)) c.requires.valid
          (λ under.
          let yes : c.is_under.result ≡ true =
          c.is_under.ensures.exact.1 (subst (λ (p : Point). IsUnder block.low p) (sym c.point-point.ensures.value) under) in
          let no : c.is_under.result ≡ false = w.if-is_under.false in cc))
    ]

pub returns-clause-uncovered : goal.returns-clause-uncovered
returns-clause-uncovered g c same one h =
    passed-all (g.S.Space.rules c.args.space.now) c.as_slice-block-items.result.now c.args.state.now c.args.cost c.parts.block-index
    c.parts.invariant (omega (arith, c.parts-test.false)) one
    (subst (λ (l : List (Block g.row.T.Denot)). Contains (members_of l) one) (sym c.as_slice-block-items.ensures.value) h)
