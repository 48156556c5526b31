use Rattle.space_search.specs.Known.{LeavesKnown}
use Rattle.space_search.specs.Listed.{listed_below}
use Rattle.space_search.proofs.space.Space.list_steps.Given as goal

abbrev pub invariant-steps : goal.invariant-steps
invariant-steps g l =
    LeavesKnown (g.Self.Space.rules l.self) l._known l._cost
    (listed_below ((g.Self.Space.rules l.self).step l.state) l.choice) l.found
