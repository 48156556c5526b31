use Rattle.std.proofs.Common.{◌≡◌}
use Rattle.edge_io.proofs.sockets.Sockets.next.Given as goal

abbrev pub invariant-turns : goal.invariant-turns
invariant-turns g l = record { same : l.self.hangup ≡ l.fn.self.hangup }
