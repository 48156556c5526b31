use Rattle.std.proofs.Common.{arith}
use Rattle.std.proofs.lemmas.List.FromFn.{map-range_with_len_more}
use Rattle.grid_map.specs.Plan.{plan_of}
use Rattle.grid_map.specs.Segments.{place_of}
use Rattle.grid_map.proofs.grid.Grid.made.Goals as goal

pub numbers-preserved : goal.numbers-preserved
numbers-preserved c =
    let more = map-range_with_len_more (place_of (plan_of c.args.seed c.args.w c.args.h)) 0 c.numbers.k c.numbers.k (omega arith) in
    record {
      numbers = c.in_ok-take_number.ensures.numbers;
      places = cc (more, c.in_ok-take_number.ensures.places, c.numbers.invariant.places);
    }
