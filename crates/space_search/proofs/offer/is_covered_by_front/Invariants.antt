use Rattle.space_search.proofs.FrontLemmas.{IsPassedBelow}
use Rattle.space_search.proofs.offer.is_covered_by_front.Given as goal

abbrev pub invariant-parts : goal.invariant-parts
invariant-parts g l = IsPassedBelow (g.S.Space.rules l.space) l.block-items l.state l.cost l.block-index
