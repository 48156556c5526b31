use Rattle.std.proofs.Common.{◌≡◌}
use Rattle.cost_model.specs.Modes.{modes_before}
use Rattle.cost_model.proofs.map_modes.modes.Given as goal

abbrev pub invariant-links : goal.invariant-links
invariant-links g l = l.found ≡ modes_before (g.F.FactsOf.links l.facts).facts l.link
