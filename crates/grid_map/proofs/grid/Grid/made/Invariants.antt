use Rattle.std.proofs.Common.{◌≡◌, map}
use Rattle.std.specs.List.{range_with_len}
use Rattle.grid_map.specs.Segments.{numbers_below, place_of}
use Rattle.grid_map.proofs.grid.Grid.made.Given as goal

abbrev pub invariant-numbers : goal.invariant-numbers
invariant-numbers l = record {
  numbers : l.numbers.items ≡ numbers_below l.plan l.k;
  places : l.places.items ≡ map (place_of l.plan) (range_with_len 0 l.k);
}
