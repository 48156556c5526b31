use Rattle.std.proofs.Common.{length}
use Rattle.edge_io.proofs.IdleLemmas.{IsBestOf}
use Rattle.edge_io.proofs.idle.idle_longest.Given as goal

abbrev pub invariant-held : goal.invariant-held
invariant-held g l = IsBestOf l.waiting.items l.held.entries (length l.yielded) l.best
