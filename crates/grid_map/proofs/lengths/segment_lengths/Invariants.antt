use Rattle.std.proofs.Common.{◌≡◌, take}
use Rattle.grid_map.specs.Costs.{length_list}
use Rattle.grid_map.proofs.lengths.segment_lengths.Given as goal

abbrev pub invariant-segments : goal.invariant-segments
invariant-segments l = l.costs.items ≡ take l.i (length_list l.grid)
