use Rattle.std.proofs.Common.{◌≡◌, ◌≤◌}
use Rattle.made_routes.specs.Costs.{segment_prices}
use Rattle.way_class.specs.Links.{links_of}
use Rattle.made_routes.proofs.prices.segment_prices.Given as goal

abbrev pub invariant-segments : goal.invariant-segments
invariant-segments l = record {
  within : l.place ≤ l.count;
  costs : l.costs.items ≡ segment_prices (links_of l.bound) l.which l.place;
}
