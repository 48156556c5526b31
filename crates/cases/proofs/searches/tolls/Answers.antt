use Rattle.cases.proofs.searches.tolls.Goals as goal

pub tell_tolls-requires-clause-of : goal.tell_tolls-requires-clause-of
tell_tolls-requires-clause-of c = c.new-search.ensures.of _
