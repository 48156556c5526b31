use Rattle.space_search.specs.Known.{LeavesKnown}
use Rattle.space_search.specs.Listed.{listed_below}
use Rattle.bike_space.specs.Kept.{task_of}
use Rattle.bike_space.specs.Tasks.{rules_of}
use Rattle.bike_space.proofs.space.BikeSpaceSpace.list_steps.Given as goal

abbrev pub invariant-choices : goal.invariant-choices
invariant-choices g l =
    let rules = rules_of (task_of (g.G.TerrainOf.terrain l.self.terrain) l.self.kept) in
    LeavesKnown rules l.known l.cost (listed_below (rules.step l.state) l.choice) l.found
