use Rattle.std.proofs.Common.{◌≡◌, ◌++◌, drop}
use Rattle.grid_map.specs.Rules.{rules_of}
use Rattle.grid_map.specs.Space.{states_along}
use Rattle.grid_map.proofs.WalkLemmas.{IsOnRun}
use Rattle.grid_map.proofs.space.GridSpace.walk.Given as goal

abbrev pub invariant-steps : goal.invariant-steps
invariant-steps l = record {
  on : IsOnRun (rules_of l.self) l.cell (drop l.number-index l.numbers);
  states : l.cells.items ++ states_along (rules_of l.self) l.cell (drop l.number-index l.numbers)
      ≡ states_along (rules_of l.self) l.self.from l.numbers;
}
