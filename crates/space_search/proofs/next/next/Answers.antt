use Rattle.space_search.proofs.NextLemmas.{next-found}
use Rattle.space_search.proofs.next.next.Goals as goal

pub returns : goal.returns
returns g c = record { next = next-found _ _ c.requires.kept c.first.result c.first.ensures.front }
