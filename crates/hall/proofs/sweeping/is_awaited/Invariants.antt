use Rattle.std.proofs.Common.{take}
use Rattle.hall.specs.Swept.{HasNoWaiter}
use Rattle.hall.proofs.sweeping.is_awaited.Given as goal

abbrev pub invariant-peers : goal.invariant-peers
invariant-peers l = HasNoWaiter (take l.j l.room.peers.items) l.k
