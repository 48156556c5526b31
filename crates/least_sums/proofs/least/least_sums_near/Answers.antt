use Rattle.least_sums.proofs.least.least_sums_near.Goals as goal

pub finish-requires-clause-finds : goal.finish-requires-clause-finds
finish-requires-clause-finds g c = c.in_ok-new.ensures.finds _
