use Rattle.std.proofs.Common.{refl, arith, length}
use Rattle.std.proofs.lemmas.Option.{slice_get_read, slice_get_within}
use Rattle.nogo_areas.proofs.FenceLemmas.{bounds-more}
use Rattle.nogo_areas.proofs.masks.bounds.Goals as goal

pub circles-preserved : goal.circles-preserved
circles-preserved c =
    let there = slice_get_read c.args.circles.now (length c.args.circles.now) c.circles.circle-index c.circle-item.result refl (omega arith)
    c.circle-item.is in
    record {
      same = omega (arith, c.in_ok-push.ensures.len, c.circles.invariant.same);
      beyond = bounds-more c.args.side c.args.circles.now c.circles.bounds.items c.push.new.self.items c.circles.circle-index
          c.circle-item.result c.least.result
          c.circles.invariant.same there c.least.ensures.beyond c.in_ok-push.ensures.items c.circles.invariant.beyond;
    }

pub returns : goal.returns
returns c = record {
  sound = record {
    same = omega arith;
    beyond = λ k circle there. c.circles.invariant.beyond k circle (omega (arith, slice_get_within c.args.circles.now k circle there))
        there;
  };
}
