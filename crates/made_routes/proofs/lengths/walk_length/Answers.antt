use Rattle.std.proofs.Common.{arith}
use Rattle.made_routes.proofs.LengthLemmas.{length-to, step-to}
use Rattle.made_routes.proofs.lengths.walk_length.Goals as goal

pub distance-sum-requires : goal.distance-sum-requires
distance-sum-requires c =
    record { short = step-to c.args.grid.now c.args.cells.now c.cells.place c.cells.invariant.some c.cells-test.true c.requires.short }

pub cells-preserved : goal.cells-preserved
cells-preserved c =
    record {
      some = omega arith;
      sum = length-to c.args.grid.now c.args.cells.now c.cells.place c.cells.sum c.distance-sum.result c.cells.invariant.some
          c.cells-test.true
          c.cells.invariant.sum c.distance-sum.ensures.exact;
      few = omega (arith, c.cells.invariant.few, c.distance-sum.ensures.within);
    }
