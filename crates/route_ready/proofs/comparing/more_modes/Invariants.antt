use Rattle.std.proofs.Common.{◌≡◌, ◌≤◌}
use Rattle.cost_model.specs.Modes.{modes_before}
use Rattle.way_class.specs.Links.{links_of}
use Rattle.route_ready.proofs.comparing.more_modes.Given as goal

abbrev pub invariant-links : goal.invariant-links
invariant-links l = record {
  within : l.link ≤ l.end;
  modes_are : l.found ≡ modes_before (links_of l.bound).facts l.link;
}
