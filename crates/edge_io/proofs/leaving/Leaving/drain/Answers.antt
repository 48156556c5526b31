use Rattle.std.proofs.Common.{rules}
use Rattle.edge_io.proofs.LeavingLemmas.{Drains-gone, Drains-left}
use Rattle.edge_io.proofs.leaving.Leaving.drain.Goals as goal

pub returns-then-not-stays-clause-drained : goal.returns-then-not-stays-clause-drained
returns-then-not-stays-clause-drained g c =
    Drains-gone _ _ _ _ c.in-Some.leaver.now c.drained-stays.new.leaver (search rules) (search rules) (search rules)
    c.drained-stays.ensures.drained

pub returns-else-not-stays-clause-drained : goal.returns-else-not-stays-clause-drained
returns-else-not-stays-clause-drained g c =
    Drains-left _ _ _ _ c.in-Some.leaver.now c.drained-stays.new.leaver (search rules) (search rules) (search rules)
    c.drained-stays.ensures.drained
