use Rattle.std.proofs.Common.{◌-◌, length}
use Rattle.space_search.specs.Blocks.{members_of, HaveFloors}
use Rattle.space_search.specs.Fronts.{Thins}
use Rattle.space_search.proofs.join.thin_front.Given as goal

abbrev pub invariant-parts : goal.invariant-parts
invariant-parts g l =
    Thins (g.S.Space.rules l.space) l.one (members_of l.initial.front.items) (members_of l.front.items)
    × HaveFloors (g.S.Space.rules l.space) l.front.items

abbrev pub decreases-parts : goal.decreases-parts
decreases-parts g l = length l.front.items - l.at
