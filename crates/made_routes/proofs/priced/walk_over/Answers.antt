use Rattle.std.proofs.Common.{arith}
use Rattle.made_routes.proofs.WalkLemmas.{least-short, segments-few}
use Rattle.made_routes.proofs.priced.walk_over.Goals as goal

pub segment_prices-requires-clause-count : goal.segment_prices-requires-clause-count
segment_prices-requires-clause-count c =
    omega (arith, segments-few c.args.grid.now c.segments-count.ensures.lawful, c.segments-count.ensures.exact)

pub segment_prices-requires-2-clause-count : goal.segment_prices-requires-2-clause-count
segment_prices-requires-2-clause-count c =
    omega (arith, segments-few c.args.grid.now c.segments-count.ensures.lawful, c.segments-count.ensures.exact)

pub walk_length-length-requires : goal.walk_length-length-requires
walk_length-length-requires c =
    record {
      short = least-short c.args.grid.now _ c.args.from c.args.to _ c.in-Some.walk _ c.segments-count.ensures.lawful.some_width c.in-Some.is
          c.in_ok-walk.ensures.exact c.as_slice-in-Some.ensures.value;
    }
