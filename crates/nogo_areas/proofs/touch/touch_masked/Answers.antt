use Rattle.std.proofs.Common.{refl, sym, ◌∙◌, arith, length}
use Rattle.std.proofs.lemmas.Option.{slice_get_read, slice_get_within}
use Rattle.geo_int.specs.Spot.{place_of}
use Rattle.nogo_areas.proofs.FenceLemmas.{none-touches, some-touches, untouched-more}
use Rattle.nogo_areas.proofs.touch.touch_masked.Goals as goal

pub returns-then-touches_masked : goal.returns-then-touches_masked
returns-then-touches_masked c =
    let there = slice_get_read c.args.circles.now (length c.args.circles.now) c.circles.k c.index-circles-k.result refl (omega arith)
    c.index-circles-k.is in
    record {
      exact = sym (some-touches (place_of c.args.a) (place_of c.args.b) c.args.circles.now c.circles.k c.index-circles-k.result there
          (sym c.touches_masked.ensures.exact ∙ c.if-touches_masked.true));
    }

pub circles-preserved : goal.circles-preserved
circles-preserved c =
    let there = slice_get_read c.args.circles.now (length c.args.circles.now) c.circles.k c.index-circles-k.result refl (omega arith)
    c.index-circles-k.is in
    record {
      none = untouched-more (place_of c.args.a) (place_of c.args.b) c.args.circles.now c.circles.k c.index-circles-k.result there
          (sym c.touches_masked.ensures.exact ∙ c.if-touches_masked.false) c.circles.invariant.none;
    }

pub returns : goal.returns
returns c = record {
  exact = sym (none-touches (place_of c.args.a) (place_of c.args.b) c.args.circles.now (λ k circle there.
      c.circles.invariant.none k circle (omega (arith, slice_get_within c.args.circles.now k circle there)) there));
}
