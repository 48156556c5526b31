use Rattle.space_search.specs.Blocks.{IsFloor}
use Rattle.space_search.proofs.SplitLemmas.{IsSplitBelow}
use Rattle.space_search.proofs.blocks.halves.Given as goal

abbrev pub invariant-members : goal.invariant-members
invariant-members g l =
    IsSplitBelow l.one-items l.near.members.items l.far.members.items l.one-index
    × IsFloor (g.S.Space.rules l.space) l.near.low l.near.members.items
    × IsFloor (g.S.Space.rules l.space) l.far.low l.far.members.items
