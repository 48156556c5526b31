use Rattle.space_search.specs.Books.{books}
use Rattle.space_search.proofs.TurnsLemmas.{none-shown}
use Rattle.space_search.proofs.search.Search.new.Goals as goal

pub returns-clause-none : goal.returns-clause-none
returns-clause-none g c = none-shown (books c.new.result) c.new.ensures.fresh.settled
