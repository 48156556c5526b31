use Rattle.std.proofs.Common.{◌-◌, length}
use Rattle.space_search.specs.Fronts.{Thins}
use Rattle.space_search.proofs.join.thin.Given as goal

abbrev pub invariant-members : goal.invariant-members
invariant-members g l = Thins (g.S.Space.rules l.space) l.one l.initial.members.items l.members.items

abbrev pub decreases-members : goal.decreases-members
decreases-members g l = length l.members.items - l.at
