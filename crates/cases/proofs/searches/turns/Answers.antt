use Rattle.cases.proofs.searches.turns.Goals as goal

pub told_turns-requires : goal.told_turns-requires
told_turns-requires c = record { of = c.new-search.ensures.of _ }
