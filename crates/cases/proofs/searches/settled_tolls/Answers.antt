use Rattle.cases.proofs.searches.settled_tolls.Goals as goal

pub turn-requires-clause-of : goal.turn-requires-clause-of
turn-requires-clause-of c = c.new-search.ensures.of _
