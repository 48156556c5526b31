use Rattle.space_search.proofs.FrontLemmas.{IsTestedBelow}
use Rattle.space_search.proofs.offer.is_covered_by_block.Given as goal

abbrev pub invariant-members : goal.invariant-members
invariant-members g l = IsTestedBelow (g.S.Space.rules l.space) l.one-items l.state l.cost l.one-index
